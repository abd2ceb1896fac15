-- Programs in which other graphs stand in the places of all graphs.
use Rattle.std.proofs.Common.{◌≡◌, ℕ, Bool, true, false, ◌==◌, List, [], ◌∷◌, ◌++◌, map, refl, sym, ap, ap₂, ◌∙◌, subst, append_assoc, eq-eqb, eqb-true, true≢false, Contains}
use Rattle.std.specs.Prelude.{◌||◌, not, if◌then◌else◌}
use Rattle.std.specs.List.{AllZip, list_any}
use Rattle.std.proofs.lemmas.Bool.{and_parts}
use Rattle.std.proofs.lemmas.List.Elements.{Contains-append_right}
use Rattle.dcc_ir.specs.Tree.{Graph, Program}
use Rattle.dcc_ir.specs.WellFormed.{all_differ, IsProgram}
use Rattle.dcc_ir.specs.Flow.{flow_of}
use Rattle.dcc_ir.specs.Keeps.{Keeps}
use Rattle.dcc_ir.specs.Replaced.{with_graph, MayReplace}
use Rattle.dcc_ir.proofs.KeepsLaws.{keeps_refl, keeps_trans}
use Rattle.dcc_ir.proofs.LocationLaws.{Contains-here, Contains-later, Contains-cases, Contains-none}
use Rattle.dcc_passes.specs.Replaced.{StandsFor, with_graphs, IsLeft}

-- a graph that may replace another stands for it
pub stands-for : (g h : Graph) → h.entry ≡ g.entry
    → ((at : ℕ) → (flow_of h).has at ≡ true → (flow_of g).has at ≡ true) → MayReplace g h → StandsFor g h
stands-for g h entry addresses may = record {
  entry = entry;
  addresses = addresses;
  formed = λ p formed there. (may p formed there).formed;
  keeps = λ p formed there. (may p formed there).keeps.keeps;
}

-- the graph in the place of one with its entry
abbrev in_place : Graph → Graph → Graph
in_place h g = if g.entry == h.entry then h else g

-- the graph that is put in place stands where the other stood
in-place : (g h : Graph) (graphs : List Graph) → h.entry ≡ g.entry → Contains graphs g
    → Contains (map (in_place h) graphs) h
in-place g h [] entry there = absurd (Contains-none g there)
in-place g h (x ∷ graphs) entry there =
    let later = map (in_place h) graphs in
    Contains-cases x graphs g (Contains (in_place h x ∷ later) h)
    (λ same. subst (λ y. Contains (y ∷ later) h)
    (sym (ap (λ b. if b then h else x) (eq-eqb x.entry h.entry (ap (λ (y : Graph). y.entry) same ∙ sym entry))))
    (Contains-here h later))
    (λ c. Contains-later (in_place h x) later h (in-place g h graphs entry c)) there

-- one graph after another in the same place
placed-twice : (h k : Graph) → k.entry ≡ h.entry → (graphs : List Graph)
    → map (in_place k) (map (in_place h) graphs) ≡ map (in_place k) graphs
placed-twice h k entry [] = refl
placed-twice h k entry (x ∷ graphs) = ap₂ (λ y ys. y ∷ ys) (once (x.entry == h.entry) refl) (placed-twice h k entry graphs)
  where
    once : (b : Bool) → (x.entry == h.entry) ≡ b → in_place k (if b then h else x) ≡ in_place k x
    once true is =
        ap (λ c. if c then k else h) (eq-eqb h.entry k.entry (sym entry))
        ∙ sym (ap (λ c. if c then k else x) (eq-eqb x.entry k.entry (eqb-true x.entry h.entry is ∙ sym entry)))
    once false is = refl

pub stands-trans : (g h k : Graph) → StandsFor g h → StandsFor h k → StandsFor g k
stands-trans g h k first second = record {
  entry = second.entry ∙ first.entry;
  addresses = λ at has. first.addresses at (second.addresses at has);
  formed = λ p formed there. subst IsProgram (same p)
      (second.formed (with_graph h p) (first.formed p formed there) (in-place g h p.graphs first.entry there));
  keeps = λ p formed there. subst (Keeps p) (same p) (keeps_trans p (with_graph h p) (with_graph k (with_graph h p))
      (first.keeps p formed there)
      (second.keeps (with_graph h p) (first.formed p formed there) (in-place g h p.graphs first.entry there)));
}
  where
    same : (p : Program) → with_graph k (with_graph h p) ≡ with_graph k p
    same p = ap (λ graphs. record { graphs = graphs; image = p.image; lo = p.lo; hi = p.hi }) (placed-twice h k second.entry p.graphs)

-- Among graphs that have entries of their own.

abbrev entries : List Graph → List ℕ
entries graphs = map (λ g. g.entry) graphs

abbrev is_listed : ℕ → List Graph → Bool
is_listed entry graphs = list_any (λ m. entry == m) (entries graphs)

neither : (a b : Bool) → (a || b) ≡ false → (a ≡ false) × (b ≡ false)
neither true b none = absurd (true≢false none)
neither false b none = (refl, none)

flipped : (m n : ℕ) → (m == n) ≡ false → (n == m) ≡ false
flipped m n apart = by (n == m) refl
  where
    by : (b : Bool) → (n == m) ≡ b → b ≡ false
    by true is = absurd (true≢false (sym (eq-eqb m n (sym (eqb-true n m is))) ∙ apart))
    by false is = refl

-- graphs with other entries stay
others-stay : (h : Graph) (graphs : List Graph) → is_listed h.entry graphs ≡ false → map (in_place h) graphs ≡ graphs
others-stay h [] none = refl
others-stay h (x ∷ graphs) none =
    let parts = neither (h.entry == x.entry) (is_listed h.entry graphs) none in
    ap₂ (λ b ys. (if b then h else x) ∷ ys) (flipped h.entry x.entry parts.0) (others-stay h graphs parts.1)

-- an entry that is listed nowhere is not that of a graph among them
unlisted : (entry : ℕ) (done rest : List Graph) (g : Graph) → is_listed entry (done ++ g ∷ rest) ≡ false → (entry == g.entry) ≡ false
unlisted entry [] rest g none = (neither (entry == g.entry) (is_listed entry rest) none).0
unlisted entry (d ∷ done) rest g none = unlisted entry done rest g (neither (entry == d.entry) (is_listed entry (done ++ g ∷ rest)) none).1

not-true : (b : Bool) → not b ≡ true → b ≡ false
not-true true is = sym is
not-true false is = refl

-- just the one graph is replaced
one-replaced : (g h : Graph) (done rest : List Graph) → h.entry ≡ g.entry → all_differ (entries (done ++ g ∷ rest)) ≡ true
    → map (in_place h) (done ++ g ∷ rest) ≡ done ++ h ∷ rest
one-replaced g h [] rest entry differ =
    let parts = and_parts (not (is_listed g.entry rest)) (all_differ (entries rest)) differ in
    ap₂ (λ b ys. (if b then h else g) ∷ ys) (eq-eqb g.entry h.entry (sym entry))
    (others-stay h rest (ap (λ n. is_listed n rest) entry ∙ not-true (is_listed g.entry rest) parts.0))
one-replaced g h (d ∷ done) rest entry differ =
    let parts = and_parts (not (is_listed d.entry (done ++ g ∷ rest))) (all_differ (entries (done ++ g ∷ rest))) differ in
    let apart = unlisted d.entry done rest g (not-true (is_listed d.entry (done ++ g ∷ rest)) parts.0) in
    ap₂ (λ b ys. (if b then h else d) ∷ ys) (ap (λ n. d.entry == n) entry ∙ apart) (one-replaced g h done rest entry parts.1)

-- One graph after another.

module _ (image : List ℕ) (lo hi : ℕ) where
  abbrev program : List Graph → Program
  program graphs = with_graphs image lo hi graphs

  pub left-from : (done before after : List Graph) → AllZip StandsFor before after → IsProgram (program (done ++ before))
      → IsLeft image lo hi (done ++ before) (done ++ after)
  left-from done [] [] all formed = record { formed = formed; keeps = keeps_refl (program (done ++ [])) }
  left-from done [] (h ∷ after) all formed = absurd all
  left-from done (g ∷ before) [] all formed = absurd all
  left-from done (g ∷ before) (h ∷ after) all formed =
      let p = program (done ++ g ∷ before) in
      let there = Contains-append_right done (g ∷ before) g (Contains-here g before) in
      let is : with_graph h p ≡ program ((done ++ h ∷ []) ++ before) =
      ap program (one-replaced g h done before all.0.entry formed.entries ∙ sym (append_assoc done (h ∷ []) before)) in
      let later = left-from (done ++ h ∷ []) before after all.1 (subst IsProgram is (all.0.formed p formed there)) in
      subst (IsLeft image lo hi (done ++ g ∷ before)) (append_assoc done (h ∷ []) after) (record {
        formed = later.formed;
        keeps = keeps_trans p (program ((done ++ h ∷ []) ++ before)) (program ((done ++ h ∷ []) ++ after))
            (subst (Keeps p) is (all.0.keeps p formed there)) later.keeps;
      })
