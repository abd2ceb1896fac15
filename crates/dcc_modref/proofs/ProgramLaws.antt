-- Graphs of a program take their turns: what is told of is changed, and all that is changed is told of in the end.
use Rattle.std.proofs.Common.{◌≡◌, ℕ, zero, suc, ◌+◌, ◌<◌, Bool, true, false, ◌||◌, not, inl, inr, List, [], ◌∷◌, ◌++◌, length, get_or, slice_get, slice_set, map, replicate, refl, sym, ap, ◌∙◌, subst, true≢false, arith}
use Rattle.std.specs.Prelude.{cond, ◌==◌, ◌⊎◌, Option, Some, None}
use Rattle.std.specs.List.{list_any}
use Rattle.std.proofs.lemmas.Bool.{cases_eq, and_parts, eq-eqb}
use Rattle.std.proofs.lemmas.List.{length-set, length-replicate, get_or-map, get_or-set_other}
use Rattle.dcc_ir.specs.declared.syntax.Loc.{Loc}
use Rattle.dcc_ir.specs.declared.syntax.Graph.{Graph as GraphOf}
use Rattle.dcc_ir.specs.Views.{graph_of}
use Rattle.dcc_ir.specs.Tree.{Graph, Program}
use Rattle.dcc_ir.specs.Run.{graph_at, no_graph}
use Rattle.dcc_ir.specs.Flow.{graph_or_none}
use Rattle.dcc_ir.specs.WellFormed.{IsProgram, all_differ}
use Rattle.dcc_ir.proofs.GraphLaws.{found_entry}
use Rattle.dcc_ir.proofs.ReachedLaws.{named_again}
use Rattle.dcc_demand.specs.Procedures.{Procedure, ChangeFamily, CallChanges}
use Rattle.dcc_demand.specs.Changes.{IsWritten, IsUnsaved, Loses, IsLost, Changes, IsClosedUnderLoss}
use Rattle.dcc_demand.proofs.ChangeLaws.{changes-closed, changes-least}
use Rattle.dcc_sums.specs.Points.{Position, site_of, is_return}
use Rattle.dcc_sums.specs.Instance.{passes, procedures_of}
use Rattle.dcc_modref.specs.States.{told_in}
use Rattle.dcc_modref.specs.Losses.{told, GraphLoses}
use Rattle.dcc_ir.specs.Passing.{passed}
use Rattle.dcc_modref.proofs.TurnLaws.{some_is}
use Rattle.dcc_modref.specs.Programs.{TellsJust, untold, AreTelling, IsSettled, HasLooked}

-- Where calls change more of one location, no less of it is lost.

module _ (less more : ChangeFamily Loc) (procedure : Procedure Position Loc Loc) (l : Loc) (within : (i : ℕ) → less i l → more i l) where
  call_widens : (callee : Option ℕ) → CallChanges less callee l → CallChanges more callee l
  call_widens (Some i) c = within i c
  call_widens None c = c

  written_too : {passed : List Position} → IsWritten less procedure l passed → IsWritten more procedure l passed
  written_too (IsWritten.by_point e) = IsWritten.by_point e
  written_too (IsWritten.by_call {a = a} c) = IsWritten.by_call (call_widens (procedure.action a).callee c)
  written_too (IsWritten.before w) = IsWritten.before (written_too w)

  unsaved_too : {word : Loc} {passed : List Position} → IsUnsaved less procedure l word passed → IsUnsaved more procedure l word passed
  unsaved_too IsUnsaved.unpushed = IsUnsaved.unpushed
  unsaved_too (IsUnsaved.overwritten e) = IsUnsaved.overwritten e
  unsaved_too (IsUnsaved.by_other e n) = IsUnsaved.by_other e n
  unsaved_too (IsUnsaved.too_late e w) = IsUnsaved.too_late e (written_too w)
  unsaved_too (IsUnsaved.kept e u) = IsUnsaved.kept e (unsaved_too u)

  loses_too : {passed : List Position} → Loses less procedure l passed → Loses more procedure l passed
  loses_too (Loses.in_call {a = a} c) = Loses.in_call (call_widens (procedure.action a).callee c)
  loses_too (Loses.made e) = Loses.made e
  loses_too (Loses.copied e) = Loses.copied e
  loses_too (Loses.popped_open e o) = Loses.popped_open e o
  loses_too (Loses.popped_unsaved e u) = Loses.popped_unsaved e (unsaved_too u)
  loses_too (Loses.left e lost) = Loses.left e (loses_too lost)

-- Graphs by their entries.

pub named_first : (graphs : List Graph) (k : ℕ) → k < length graphs → all_differ (map (λ g. g.entry) graphs) ≡ true
    → graph_at graphs (get_or graphs k no_graph).entry ≡ Some (get_or graphs k no_graph)
named_first [] k inside differ = absurd (omega (arith, inside))
named_first (g ∷ graphs) zero inside differ = ap (λ b. cond b (Some g) (graph_at graphs g.entry)) (eq-eqb g.entry g.entry refl)
named_first (g ∷ graphs) (suc k) inside differ =
    named_again (g ∷ graphs) (get_or graphs k no_graph).entry (get_or graphs k no_graph) differ
    (named_first graphs k (omega (arith, inside)) (and_parts (not (list_any (λ m. g.entry == m) (map (λ x. x.entry) graphs))) (all_differ (map (λ x. x.entry) graphs)) differ).1)

pub found_place : (graphs : List Graph) (entry : ℕ) (g : Graph) → graph_at graphs entry ≡ Some g → (k : ℕ) × (k < length graphs) × (get_or graphs k no_graph ≡ g)
found_place [] entry g e = absurd (cc)
found_place (x ∷ graphs) entry g e = by (x.entry == entry) (found_place graphs entry g) e
  where
    by : (b : Bool) → (graph_at graphs entry ≡ Some g → (k : ℕ) × (k < length graphs) × (get_or graphs k no_graph ≡ g)) → cond b (Some x) (graph_at graphs entry) ≡ Some g
        → (k : ℕ) × (k < suc (length graphs)) × (get_or (x ∷ graphs) k no_graph ≡ g)
    by true later e = let same : x ≡ g = cc in (0, omega arith, same)
    by false later e = let on = later e in (suc on.0, (let less = on.1 in omega (arith, less)), on.2)

-- One graph.

untold_less : (changed : List Bool) (e : ℕ) → e < length changed → get_or changed e false ≡ false → untold (slice_set changed e true) < untold changed
untold_less [] e inside is = absurd (omega (arith, inside))
untold_less (true ∷ changed) zero inside is = absurd (true≢false is)
untold_less (false ∷ changed) zero inside is = omega arith
untold_less (true ∷ changed) (suc e) inside is = untold_less changed e (omega (arith, inside)) is
untold_less (false ∷ changed) (suc e) inside is = let on = untold_less changed e (omega (arith, inside)) is in omega (arith, on)

module _ (p : Program) (l : Loc) (good : IsProgram p) (passing : passes l ≡ true) where
  changes_there : (changed : List Bool) → AreTelling p l changed → (k : ℕ) → k < length p.graphs → GraphLoses (told_in changed) (get_or p.graphs k no_graph) l
      → Changes (procedures_of p) (get_or p.graphs k no_graph).entry l
  changes_there changed telling k inside lost =
      let entry = (get_or p.graphs k no_graph).entry in
      let is = ap graph_or_none (named_first p.graphs k inside good.entries) in
      let here = subst (λ g. GraphLoses (told_in changed) g l) (sym is) lost in
      changes-closed (procedures_of p) entry l (record {
        passes = passing;
        passed = here.passed;
        at = here.at;
        trail = here.trail;
        returns = here.returns;
        loses = loses_too (told (told_in changed)) (Changes (procedures_of p)) ((procedures_of p).procedure entry) l telling.sound here.loses;
      })

  pub one_told : (changed : List Bool) → AreTelling p l changed → (k : ℕ) → k < length p.graphs → (get_or p.graphs k no_graph).entry < 65536
      → GraphLoses (told_in changed) (get_or p.graphs k no_graph) l → AreTelling p l (slice_set changed (get_or p.graphs k no_graph).entry true)
  one_told changed telling k inside below lost =
      let e = (get_or p.graphs k no_graph).entry in
      record {
        count = length-set changed e true ∙ telling.count;
        sound = λ i t. elim (cases_eq i e) [
          | inl is ↦ subst (λ n. Changes (procedures_of p) n l) (sym is) (changes_there changed telling k inside lost)
          | inr o ↦ telling.sound i (sym (get_or-set_other changed e i true false o) ∙ t)
        ];
      }

  pub one_looked : (changed : List Bool) → AreTelling p l changed → (k : ℕ) (new : Bool) → (get_or p.graphs k no_graph).entry < 65536 → told_in changed (get_or p.graphs k no_graph).entry ≡ false
      → new ≡ true → HasLooked p l changed (slice_set changed (get_or p.graphs k no_graph).entry true) new (λ place. place ≡ k)
  one_looked changed telling k new below untold is = record {
    less = λ e. let size = telling.count in untold_less changed (get_or p.graphs k no_graph).entry (omega (arith, size, below)) untold;
    same = λ e. absurd (true≢false (sym is ∙ e));
    settled = λ e. absurd (true≢false (sym is ∙ e));
  }

  pub none_looked : (changed : List Bool) (k : ℕ) → IsSettled p l changed k → HasLooked p l changed changed false (λ place. place ≡ k)
  none_looked changed k settled = record {
    less = λ e. absurd (true≢false (sym e));
    same = λ e. refl;
    settled = λ e place is. subst (IsSettled p l changed) (sym is) settled;
  }

  pub first_looked : (changed : List Bool) → HasLooked p l changed changed false (λ place. place < 0)
  first_looked changed = record { less = λ e. absurd (true≢false (sym e)); same = λ e. refl; settled = λ e k below. absurd (omega (arith, below)) }

  -- some graphs after others
  looked_then : (a b c : List Bool) (n m : Bool) (P Q R : ℕ → Type 0) → ((k : ℕ) → R k → P k ⊎ Q k) → HasLooked p l a b n P → HasLooked p l b c m Q → HasLooked p l a c (n || m) R
  looked_then a b c n m P Q R either one other = record {
    less = λ e. by n m refl refl e;
    same = λ e. let f = none n m e in other.same f.1 ∙ one.same f.0;
    settled = λ e k there. let f = none n m e in elim (either k there) [
      | inl q ↦ one.settled f.0 k q
      | inr q ↦ subst (λ s. IsSettled p l s k) (one.same f.0) (other.settled f.1 k q)
    ];
  }
    where
      none : (n m : Bool) → (n || m) ≡ false → (n ≡ false) × (m ≡ false)
      none true m e = absurd (true≢false e)
      none false m e = (refl, e)

      by : (x y : Bool) → n ≡ x → m ≡ y → (n || m) ≡ true → untold c < untold a
      by true true f g e = let x = one.less f in let y = other.less g in omega (arith, x, y)
      by true false f g e = let x = one.less f in subst (λ z. untold z < untold a) (sym (other.same g)) x
      by false true f g e = let y = other.less g in subst (λ z. untold c < untold z) (one.same f) y
      by false false f g e = absurd (true≢false (sym e ∙ ap (λ x. x || m) f ∙ g))

  pub looked_both : (a b c : List Bool) (n m : Bool) (at : ℕ) → HasLooked p l a b n (λ k. k < at) → HasLooked p l b c m (λ k. k ≡ at) → HasLooked p l a c (n || m) (λ k. k < at + 1)
  looked_both a b c n m at = looked_then a b c n m (λ k. k < at) (λ k. k ≡ at) (λ k. k < at + 1) (λ k below. elim (cases_eq k at) [
    | inl is ↦ inr is
    | inr o ↦ inl (omega (arith, below, o))
  ])

  -- where it isn't told which graphs were looked at
  pub looked_on : (a b c : List Bool) (n m : Bool) → HasLooked p l a b n (λ k. ⊥) → HasLooked p l b c m (λ k. ⊥) → HasLooked p l a c (n || m) (λ k. ⊥)
  looked_on a b c n m = looked_then a b c n m (λ k. ⊥) (λ k. ⊥) (λ k. ⊥) (λ k none. absurd none)

  pub looked_some : (a b : List Bool) (n : Bool) (at : ℕ) → HasLooked p l a b n (λ k. k ≡ at) → HasLooked p l a b n (λ k. ⊥)
  looked_some a b n at one = record { less = one.less; same = one.same; settled = λ e k none. absurd none }

  pub unlooked : (a : List Bool) → HasLooked p l a a false (λ k. ⊥)
  unlooked a = record { less = λ e. absurd (true≢false (sym e)); same = λ e. refl; settled = λ e k none. absurd none }

  -- The end.

  no_returns : (a : Position) → is_return (site_of no_graph a) ≡ false
  no_returns a = by a.done
    where
      by : (done : ℕ) → is_return (site_of no_graph (record { block = a.block; done = done })) ≡ false
      by zero = refl
      by (suc done) = refl

  pub all_told : (changed : List Bool) → AreTelling p l changed → ((k : ℕ) → k < length p.graphs → IsSettled p l changed k) → TellsJust p l changed
  all_told changed telling settled entry = (telling.sound entry, λ c. changes-least (procedures_of p) Family closed entry l c refl)
    where
      Family : ChangeFamily Loc
      Family i l' = (l' ≡ l) → told_in changed i ≡ true

      at_graph : (i : ℕ) (x : Option Graph) → graph_at p.graphs i ≡ x → GraphLoses (told_in changed) (graph_or_none x) l → told_in changed i ≡ true
      at_graph i None e lost = absurd (true≢false (sym lost.returns ∙ no_returns lost.at))
      at_graph i (Some g) e lost =
          let found = found_place p.graphs i g e in
          let there = settled found.0 found.1 (subst (λ x. GraphLoses (told_in changed) x l) (sym found.2) lost) in
          subst (λ n. told_in changed n ≡ true) (ap (λ x. x.entry) found.2 ∙ found_entry p.graphs i g e) there

      closed : IsClosedUnderLoss (procedures_of p) Family
      closed i l' lost e =
          let here = subst (IsLost (procedures_of p) Family i) e lost in
          at_graph i (graph_at p.graphs i) refl (record {
            passed = here.passed;
            at = here.at;
            trail = here.trail;
            returns = here.returns;
            loses = loses_too Family (told (told_in changed)) ((procedures_of p).procedure i) l (λ j d. d refl) here.loses;
          })

  pub first_telling : (changed : List Bool) (n : ℕ) → changed ≡ replicate n false → n ≡ 65536 → AreTelling p l changed
  first_telling changed n e is = record {
    count = ap length e ∙ length-replicate n false ∙ is;
    sound = λ entry t. absurd (true≢false (sym t ∙ ap (λ x. told_in x entry) e ∙ get_false n entry));
  }
    where
      get_false : (n e : ℕ) → get_or (replicate n false) e false ≡ false
      get_false zero e = refl
      get_false (suc n) zero = refl
      get_false (suc n) (suc e) = get_false n e

pub graph_here : (graphs : List GraphOf) (at : ℕ) (graph : GraphOf) → at < length graphs → graph ≡ get_or graphs at graph → graph_of graph ≡ get_or (map graph_of graphs) at no_graph
graph_here graphs at graph inside read = ap graph_of read ∙ sym (get_or-map graph_of graphs at graph no_graph inside)

-- Lists of all locations.

pub one_more : {A : Type 0} (lists : List A) (v changed : A) (place : ℕ) → slice_get (lists ++ v ∷ []) place ≡ Some changed → (slice_get lists place ≡ Some changed) ⊎ ((place ≡ length lists) × (v ≡ changed))
one_more [] v changed zero e = inr (refl, cc)
one_more [] v changed (suc place) e = absurd (cc)
one_more (x ∷ lists) v changed zero e = inl e
one_more (x ∷ lists) v changed (suc place) e = elim (one_more lists v changed place e) [
  | inl f ↦ inl f
  | inr f ↦ inr (ap suc f.0, f.1)
]

pub lists_more : (p : Program) (lists : List (List Bool)) (v : List Bool) (x : Loc) → slice_get passed (length lists) ≡ Some x → TellsJust p x v
    → ((place : ℕ) (location : Loc) (changed : List Bool) → slice_get passed place ≡ Some location → slice_get lists place ≡ Some changed → TellsJust p location changed)
    → (place : ℕ) (location : Loc) (changed : List Bool) → slice_get passed place ≡ Some location → slice_get (lists ++ v ∷ []) place ≡ Some changed → TellsJust p location changed
lists_more p lists v x there tells old place location changed at e = elim (one_more lists v changed place e) [
  | inl f ↦ old place location changed at f
  | inr f ↦
      let same : x ≡ location = some_is x location (sym there ∙ ap (slice_get passed) (sym f.0) ∙ at) in
      subst (λ l. TellsJust p l changed) same (subst (TellsJust p x) f.1 tells)
]
