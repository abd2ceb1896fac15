-- A coarse trail has a fine one, and the other way, so both procedures change the same.
use Rattle.std.proofs.Common.{◌≡◌, ℕ, zero, suc, true, inl, inr, List, [], ◌∷◌, ◌++◌, refl, sym, ap, ◌∙◌, subst, true≢false, arith, ◌<◌, length, get_or}
use Rattle.std.specs.Prelude.{Contains}
use Rattle.std.proofs.lemmas.List.{append_assoc}
use Rattle.dcc_demand.specs.Procedures.{Procedure, Procedures, ChangeFamily}
use Rattle.dcc_demand.specs.Trail.{IsTrail}
use Rattle.dcc_demand.specs.Changes.{Loses, IsLost, Changes}
use Rattle.dcc_demand.proofs.ChangeLaws.{changes-closed, changes-least}
use Rattle.dcc_refinement.specs.Steps.{Walks}
use Rattle.dcc_refinement.specs.Refinement.{Refinement, IsSettled, IsRefined}
use Rattle.dcc_refinement.proofs.StepLaws.{onto, onto-append}
use Rattle.dcc_refinement.proofs.TransferLaws.{flat, loses_up, loses_down}

-- the one element of a list
pub only : {A : Type 0} {x y : A} → Contains (x ∷ []) y → x ≡ y
only {A} {x} {y} c = found c.0 c.1 c.2
  where
    found : (k : ℕ) → k < length (x ∷ []) → get_or (x ∷ []) k y ≡ y → x ≡ y
    found zero below e = e
    found (suc k) below e = absurd (omega (arith, below))

module _ {Point Location Word : Type 0} (g : Procedure Point Location Word) where
  walk : {a b : Point} {steps passed : List Point} → Walks g a steps b → IsTrail g passed a → IsTrail g (onto steps passed) b
  walk Walks.stands trail = trail
  walk (Walks.goes c w) trail = walk w (IsTrail.goes_on trail c)

  pub walks_nowhere : {a b : Point} {steps : List Point} → Walks g a steps b → steps ≡ [] → a ≡ b
  walks_nowhere Walks.stands e = refl
  walks_nowhere (Walks.goes c w) e = absurd (cc e)

module _ {Point Location Word FinePoint FineLocation FineWord : Type 0} (coarse : Procedures Point Location Word)
    (fine : Procedures FinePoint FineLocation FineWord) (r : Refinement Point Location Word FinePoint FineLocation FineWord)
    (refined : IsRefined coarse fine r) where
  module _ (i : ℕ) where
    trail_up : r.begin i (coarse.procedure i).entry ≡ (fine.procedure i).entry → {passed : List Point} {a : Point} → IsTrail (coarse.procedure i) passed a
        → IsTrail (fine.procedure i) (flat coarse fine r i passed) (r.begin i a)
    trail_up e IsTrail.enters = subst (λ x. IsTrail (fine.procedure i) [] x) (sym e) IsTrail.enters
    trail_up e (IsTrail.goes_on {a = a} {b = b} trail c) = walk (fine.procedure i) ((refined.edges i a).goes b c) (trail_up e trail)

    -- where a fine trail has come to
    record Found (passed : List FinePoint) (step : FinePoint) : Type 0 where
      point : Point
      coarse_passed : List Point
      before : List FinePoint
      after : List FinePoint
      at : r.steps i point ≡ before ++ (step ∷ after)
      trail : IsTrail (coarse.procedure i) coarse_passed point
      passed_is : onto before (flat coarse fine r i coarse_passed) ≡ passed

    -- the next point with steps
    record Settles (passed : List FinePoint) (step : FinePoint) : Type 0 where
      point : Point
      coarse_passed : List Point
      after : List FinePoint
      at : r.steps i point ≡ step ∷ after
      trail : IsTrail (coarse.procedure i) coarse_passed point
      passed_is : flat coarse fine r i coarse_passed ≡ passed

    settle : {a : Point} → IsSettled coarse fine r i a → (passed : List Point) → IsTrail (coarse.procedure i) passed a → Settles (flat coarse fine r i passed) (r.begin i a)
    settle (IsSettled.by_steps {a = a} {step = step} {steps = steps} e) passed trail = record {
      point = a;
      coarse_passed = passed;
      after = steps;
      at = e ∙ ap (λ x. x ∷ steps) (sym ((refined.edges i a).begins step steps e));
      trail = trail;
      passed_is = refl;
    }
    settle (IsSettled.by_next {a = a} {b = b} e c settled) passed trail =
        let later = settle settled (a ∷ passed) (IsTrail.goes_on trail c) in
        let one = walks_nowhere (fine.procedure i) ((refined.edges i a).goes b c) e in
        record {
          point = later.point;
          coarse_passed = later.coarse_passed;
          after = later.after;
          at = later.at ∙ ap (λ x. x ∷ later.after) (sym one);
          trail = later.trail;
          passed_is = later.passed_is ∙ ap (λ s. onto s (flat coarse fine r i passed)) e;
        }

    found_at : {passed : List FinePoint} {step : FinePoint} → Settles passed step → Found passed step
    found_at s = record {
      point = s.point;
      coarse_passed = s.coarse_passed;
      before = [];
      after = s.after;
      at = s.at;
      trail = s.trail;
      passed_is = s.passed_is;
    }

    next_by : {passed : List FinePoint} {step to : FinePoint} (point : Point) (coarse_passed : List Point) (before after : List FinePoint)
        → r.steps i point ≡ before ++ (step ∷ after) → IsTrail (coarse.procedure i) coarse_passed point → onto before (flat coarse fine r i coarse_passed) ≡ passed
        → Contains ((fine.procedure i).next step) to → Found (step ∷ passed) to
    next_by {passed} {step} {to} point coarse_passed before [] at trail e c =
        let come = (refined.edges i point).comes before step to at c in
        let s = settle (refined.settled i point come.0 come.1) (point ∷ coarse_passed) (IsTrail.goes_on trail come.1) in
        let flat_is : flat coarse fine r i (point ∷ coarse_passed) ≡ step ∷ passed =
        ap (λ s. onto s (flat coarse fine r i coarse_passed)) at ∙ onto-append before (step ∷ []) (flat coarse fine r i coarse_passed) ∙ ap (λ x. step ∷ x) e in
        subst (λ x. Found x to) flat_is (subst (λ x. Found (flat coarse fine r i (point ∷ coarse_passed)) x) (sym come.2) (found_at s))
    next_by {passed} {step} {to} point coarse_passed before (next ∷ after) at trail e c =
        let one : next ≡ to = only (subst (λ x. Contains x to) ((refined.edges i point).within before after step next at).0 c) in
        subst (λ x. Found (step ∷ passed) x) one (record {
          point = point;
          coarse_passed = coarse_passed;
          before = before ++ (step ∷ []);
          after = after;
          at = at ∙ sym (append_assoc before (step ∷ []) (next ∷ after));
          trail = trail;
          passed_is = onto-append before (step ∷ []) (flat coarse fine r i coarse_passed) ∙ ap (λ x. step ∷ x) e;
        })

    trail_down : r.begin i (coarse.procedure i).entry ≡ (fine.procedure i).entry → {passed : List FinePoint} {step : FinePoint} → IsTrail (fine.procedure i) passed step → Found passed step
    trail_down e IsTrail.enters = subst (λ x. Found [] x) e (found_at (settle (refined.settled_entry i) [] IsTrail.enters))
    trail_down e (IsTrail.goes_on trail c) = next (trail_down e trail) c
      where
        next : {passed : List FinePoint} {step to : FinePoint} → Found passed step → Contains ((fine.procedure i).next step) to → Found (step ∷ passed) to
        next f c = next_by f.point f.coarse_passed f.before f.after f.at f.trail f.passed_is c

    -- a return is the only step of its point
    record Returns (step : FinePoint) (passed : List FinePoint) : Type 0 where
      point : Point
      coarse_passed : List Point
      trail : IsTrail (coarse.procedure i) coarse_passed point
      returns : (coarse.procedure i).returns point ≡ true
      passed_is : flat coarse fine r i coarse_passed ≡ passed

    first_alone : (before : List FinePoint) (step other : FinePoint) → before ++ (step ∷ []) ≡ other ∷ [] → before ≡ []
    first_alone [] step other e = refl
    first_alone (x ∷ []) step other e = absurd (cc e)
    first_alone (x ∷ y ∷ before) step other e = absurd (cc e)

    returns_by : {passed : List FinePoint} {step : FinePoint} (point : Point) (coarse_passed : List Point) (before after : List FinePoint)
        → r.steps i point ≡ before ++ (step ∷ after) → IsTrail (coarse.procedure i) coarse_passed point → onto before (flat coarse fine r i coarse_passed) ≡ passed
        → (fine.procedure i).returns step ≡ true → Returns step passed
    returns_by {passed} {step} point coarse_passed before [] at trail e ret =
        let returns = sym ((refined.edges i point).returns before step at) ∙ ret in
        let alone = (refined.edges i point).alone returns in
        let none = first_alone before step alone.0 (sym at ∙ alone.1) in
        record {
          point = point;
          coarse_passed = coarse_passed;
          trail = trail;
          returns = returns;
          passed_is = subst (λ x. onto x (flat coarse fine r i coarse_passed) ≡ passed) none e;
        }
    returns_by {step = step} point coarse_passed before (next ∷ after) at trail e ret =
        absurd (true≢false (sym ret ∙ ((refined.edges i point).within before after step next at).1))

    returns_down : {passed : List FinePoint} {step : FinePoint} → Found passed step → (fine.procedure i).returns step ≡ true → Returns step passed
    returns_down f ret = returns_by f.point f.coarse_passed f.before f.after f.at f.trail f.passed_is ret

    module _ (changed : ChangeFamily Location) (fine_changed : ChangeFamily FineLocation) (l : Location) (m : FineLocation) (same : r.same i l m) where
      lost_up : ((j : ℕ) → changed j l → fine_changed j m) → IsLost coarse changed i l → IsLost fine fine_changed i m
      lost_up up lost = elim (refined.entries i) [
        | inl e ↦
            let alone = (refined.edges i lost.at).alone lost.returns in
            let begin_is = (refined.edges i lost.at).begins alone.0 [] alone.1 in
            record {
              passes = sym (refined.passes i l m same) ∙ lost.passes;
              passed = flat coarse fine r i lost.passed;
              at = alone.0;
              trail = subst (λ x. IsTrail (fine.procedure i) (flat coarse fine r i lost.passed) x) begin_is (trail_up e lost.trail);
              returns = (refined.edges i lost.at).returns [] alone.0 alone.1 ∙ lost.returns;
              loses = loses_up coarse fine r refined changed fine_changed i l m same lost.passes up lost.loses;
            }
        | inr apart ↦ absurd (true≢false (sym lost.returns ∙ apart.stays lost.at))
      ]

      lost_down : ((j : ℕ) → fine_changed j m → changed j l) → IsLost fine fine_changed i m → IsLost coarse changed i l
      lost_down down lost = elim (refined.entries i) [
        | inl e ↦
            let back = returns_down (trail_down e lost.trail) lost.returns in
            let passes = refined.passes i l m same ∙ lost.passes in
            record {
              passes = passes;
              passed = back.coarse_passed;
              at = back.point;
              trail = back.trail;
              returns = back.returns;
              loses = loses_down coarse fine r refined changed fine_changed i l m same passes down back.coarse_passed
                  (subst (λ x. Loses fine_changed (fine.procedure i) m x) (sym back.passed_is) lost.loses);
            }
        | inr apart ↦ absurd (true≢false (sym lost.returns ∙ apart.fine_stays lost.at))
      ]

  pub changes_up : (i : ℕ) (l : Location) (m : FineLocation) → r.same i l m → Changes coarse i l → Changes fine i m
  changes_up i l m same c = changes-least coarse family closed i l c m same
    where
      family : ChangeFamily Location
      family i l = (m : FineLocation) → r.same i l m → Changes fine i m

      closed : (i : ℕ) (l : Location) → IsLost coarse family i l → family i l
      closed i l lost m same =
          changes-closed fine i m (lost_up i family (Changes fine) l m same (λ j c. c m (refined.shared i j l m same lost.passes)) lost)

  pub changes_down : (i : ℕ) (l : Location) (m : FineLocation) → r.same i l m → Changes fine i m → Changes coarse i l
  changes_down i l m same c = changes-least fine family closed i m c l same
    where
      family : ChangeFamily FineLocation
      family i m = (l : Location) → r.same i l m → Changes coarse i l

      closed : (i : ℕ) (m : FineLocation) → IsLost fine family i m → family i m
      closed i m lost l same =
          changes-closed coarse i l (lost_down i (Changes coarse) family l m same
          (λ j c. c l (refined.shared i j l m same (refined.passes i l m same ∙ lost.passes))) lost)
