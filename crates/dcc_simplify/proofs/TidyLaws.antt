-- What is left of a graph whose expressions were simplified.
use Rattle.std.proofs.Common.{◌≡◌, ℕ, ◌≤◌, true, List, sym, subst}
use Rattle.dcc_ir.specs.Tree.{Expr, Graph}
use Rattle.dcc_ir.specs.Use.{graph_exprs}
use Rattle.dcc_ir.specs.Measure.{deepest}
use Rattle.dcc_ir.specs.WellFormed.{is_expr, IsGraph}
use Rattle.dcc_passes.specs.Renaming.{param_places}
use Rattle.dcc_passes.specs.Tidied.{are_different, IsTidied}
use Rattle.dcc_rules.specs.Simpler.{MeansSame, IsReduced}
use Rattle.dcc_simplify.specs.Reshaped.{IsGraphAs}
use Rattle.dcc_simplify.specs.Simplified.{IsSimplified}
use Rattle.dcc_simplify.proofs.MeaningLaws.{graph-means, graph-formed, graph-kind}
use Rattle.dcc_simplify.proofs.StandLaws.{stands-same}
use Rattle.dcc_simplify.proofs.AddsLaws.{addresses-stay, depth-stays}

module _ (ids : List ℕ) (before after : Graph) (is : IsGraphAs (IsSimplified ids before.bits) before after) where
  abbrev As : Expr → Expr → Type 0
  As = IsSimplified ids before.bits

  reduced : (e e' : Expr) → As e e' → IsReduced before.bits e e'
  reduced e e' h = h.reduced

  pub tidied-by : IsGraph before → IsTidied before after
  tidied-by fine =
      let sound : (e e' : Expr) → As e e' → is_expr before.bits e ≡ true → MeansSame before.bits e e' = λ e e' h ok. h.reduced.meaning fine.bits ok in
      let formed = graph-formed before after As is fine sound in
      let kind = graph-kind before after As is fine sound in
      record {
        formed = formed;
        stands = stands-same before after fine (graph-means before after As is fine sound) formed kind;
        kind = kind;
        addresses = λ test passes. addresses-stay before.bits As reduced before after is test passes;
        apart = λ differ. subst (λ params. are_different (param_places params) ≡ true) (sym is.params) differ;
      }

  pub no-deeper : deepest (graph_exprs after) ≤ deepest (graph_exprs before)
  no-deeper = depth-stays before.bits As reduced before after is
