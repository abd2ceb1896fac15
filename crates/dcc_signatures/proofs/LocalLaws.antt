-- In the localised program no procedure passes more than its summary says, and gives one value.
use Rattle.std.proofs.Common.{◌≡◌, ℕ, List, [], ◌∷◌, refl, ap, sym, subst, map}
use Rattle.std.specs.Prelude.{if◌then◌else◌, ◌==◌, All}
use Rattle.std.specs.List.{AllZip}
use Rattle.std.proofs.lemmas.List.Elements.{All-nil, All-cons}
use Rattle.dcc_ir.specs.Tree.{Graph, Program, Summary}
use Rattle.dcc_ir.specs.Trimmed.{Trim, trim_graph}
use Rattle.dcc_sums.specs.Summaries.{IsSummary}
use Rattle.dcc_sums.specs.Localised.{summary_at, trim_by, localised, PassesJust}
use Rattle.dcc_sums.proofs.JustLaws.{localised-passes_just}
use Rattle.dcc_signatures.specs.Laws.{AreInOrder, LocalisedPassesOneValue}
use mathlib.Core.Path.{fun_ext}

-- a summary is told by the entries of the graphs alone
sum_still : (trim : Trim) (graphs : List Graph) (sums : List Summary) (entry : ℕ) → summary_at (map (trim_graph trim) graphs) sums entry ≡ summary_at graphs sums entry
sum_still trim [] sums entry = refl
sum_still trim (g ∷ graphs) [] entry = refl
sum_still trim (g ∷ graphs) (sum ∷ sums) entry = ap (λ later. if g.entry == entry then sum else later) (sum_still trim graphs sums entry)

sums-in_order : (p : Program) (graphs : List Graph) (sums : List Summary) → AllZip (IsSummary p) graphs sums → All AreInOrder sums
sums-in_order p [] [] all = All-nil AreInOrder
sums-in_order p (g ∷ graphs) (sum ∷ sums) all =
    All-cons AreInOrder sum sums (record { params = all.0.params.order; results = all.0.results.order }) (sums-in_order p graphs sums all.1)
sums-in_order p [] (sum ∷ sums) all = absurd all
sums-in_order p (g ∷ graphs) [] all = absurd all

pub localised-passes_one_value : LocalisedPassesOneValue
localised-passes_one_value back p sums formed passes_all are one = record {
  just = subst (λ sum_of. PassesJust sum_of (localised sums p)) (sym (fun_ext (sum_still (trim_by p.graphs sums) p.graphs sums))) (localised-passes_just back p sums formed passes_all are);
  order = sums-in_order p p.graphs sums are;
  one = one;
}
