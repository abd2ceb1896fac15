-- What a coarse trail writes, leaves unsaved and loses, its fine steps do too, and the other way.
use Rattle.std.proofs.Common.{◌≡◌, ℕ, true, false, ◌⊎◌, inl, inr, List, [], ◌∷◌, refl, sym, ap, ◌∙◌, subst, true≢false}
use Rattle.std.specs.Prelude.{Some, None}
use Rattle.dcc_demand.specs.Procedures.{Effect, Leaves, Copies, Pops, Makes, WordEffect, LeavesWord, Pushes, Overwrites, Procedures, is_left, ChangeFamily, CallChanges}
use Rattle.dcc_demand.specs.Changes.{IsWritten, IsUnsaved, Loses}
use Rattle.dcc_refinement.specs.Steps.{effect_of, word_effect_of, CallNothing, LosesAtOnce, Spoils}
use Rattle.dcc_refinement.specs.Refinement.{Refinement, EffectsAgree, WordEffectsAgree, CallsFirst, IsRefined}
use Rattle.dcc_refinement.proofs.StepLaws as steps
use Rattle.dcc_refinement.proofs.StepLaws.{onto, later_leaves}

module _ {Point Location Word FinePoint FineLocation FineWord : Type 0} (coarse : Procedures Point Location Word)
    (fine : Procedures FinePoint FineLocation FineWord) (r : Refinement Point Location Word FinePoint FineLocation FineWord) where
  -- Effects that agree, by equations.

  data EffectCases (i : ℕ) (x : Effect Location Word) (y : Effect FineLocation FineWord) : Type 0 where
    both_left : x ≡ Leaves → y ≡ Leaves → EffectCases i x y
    both_lost : LosesAtOnce (coarse.procedure i) x → LosesAtOnce (fine.procedure i) y → EffectCases i x y
    both_popped : {word : Word} {other : FineWord} → x ≡ Pops word → y ≡ Pops other → (coarse.procedure i).is_private word ≡ true
        → (fine.procedure i).is_private other ≡ true → r.same_word i word other → EffectCases i x y

  effect_cases : {i : ℕ} {x : Effect Location Word} {y : Effect FineLocation FineWord} → EffectsAgree coarse fine r i x y → EffectCases i x y
  effect_cases EffectsAgree.both_leave = EffectCases.both_left refl refl
  effect_cases (EffectsAgree.both_lose o p) = EffectCases.both_lost o p
  effect_cases (EffectsAgree.both_pop o p s) = EffectCases.both_popped refl refl o p s

  data WordCases (l : Location) (m : FineLocation) (x : WordEffect Location) (y : WordEffect FineLocation) : Type 0 where
    both_left : x ≡ LeavesWord → y ≡ LeavesWord → WordCases l m x y
    both_pushed : x ≡ Pushes l → y ≡ Pushes m → WordCases l m x y
    both_spoiled : Spoils l x → Spoils m y → WordCases l m x y

  word_cases : {l : Location} {m : FineLocation} {x : WordEffect Location} {y : WordEffect FineLocation} → WordEffectsAgree coarse fine r l m x y → WordCases l m x y
  word_cases WordEffectsAgree.both_leave = WordCases.both_left refl refl
  word_cases WordEffectsAgree.both_push = WordCases.both_pushed refl refl
  word_cases (WordEffectsAgree.both_spoil s t) = WordCases.both_spoiled s t

  push_spoils_not : {l : Location} {x : WordEffect Location} → Spoils l x → x ≡ Pushes l → ⊥
  push_spoils_not Spoils.overwritten e = cc e
  push_spoils_not (Spoils.by_other n) e = n (cc e)

  leave_spoils_not : {l : Location} {x : WordEffect Location} → Spoils l x → x ≡ LeavesWord → ⊥
  leave_spoils_not Spoils.overwritten e = cc e
  leave_spoils_not (Spoils.by_other n) e = cc e

  abbrev popping : Word → Effect Location Word
  popping word = Pops word

  popped_word : (w v : Word) → popping w ≡ popping v → w ≡ v
  popped_word w v e = cc e

  open_pop : {i : ℕ} {x : Effect Location Word} {word : Word} → LosesAtOnce (coarse.procedure i) x → x ≡ Pops word → (coarse.procedure i).is_private word ≡ true → ⊥
  open_pop LosesAtOnce.made e p = cc e
  open_pop LosesAtOnce.copied e p = cc e
  open_pop {i = i} (LosesAtOnce.popped_open {word = other} o) e p =
      let same = popped_word other _ e in true≢false (sym p ∙ subst (λ w. (coarse.procedure i).is_private w ≡ false) same o)

  -- Trails.

  abbrev pub flat : ℕ → List Point → List FinePoint
  flat i [] = []
  flat i (a ∷ passed) = onto (r.steps i a) (flat i passed)

  module _ (refined : IsRefined coarse fine r) (changed : ChangeFamily Location) (fine_changed : ChangeFamily FineLocation) (i : ℕ) (l : Location) (m : FineLocation)
      (same : r.same i l m) (passes : coarse.passes l ≡ true) where
    effects : (a : Point) → EffectCases i (((coarse.procedure i).action a).effect l) (effect_of (fine.procedure i) (r.steps i a) m)
    effects a = effect_cases ((refined.changes i a).effect l m same passes)

    words : {w : Word} {v : FineWord} → r.same_word i w v → (a : Point)
        → WordCases l m (((coarse.procedure i).action a).word_effect w) (word_effect_of (fine.procedure i) (r.steps i a) v)
    words {w} {v} s a = word_cases ((refined.changes i a).word_effect l m w v same passes s)

    left_too : (a : Point) → ((coarse.procedure i).action a).effect l ≡ Leaves → effect_of (fine.procedure i) (r.steps i a) m ≡ Leaves
    left_too a e = elim (effects a) [
      | EffectCases.both_left f g ↦ g
      | EffectCases.both_lost o p ↦ absurd (steps.at_once_leaves_not (coarse.procedure i) o e)
      | EffectCases.both_popped f g o p s ↦ absurd (cc (e, f))
    ]

    call_left : {j : ℕ} {a : Point} → (first : CallsFirst coarse fine r i j a) → (effect_of (fine.procedure i) first.others m ≡ Leaves) × (((fine.procedure i).action first.call).effect m ≡ Leaves)
    call_left {a = a} first =
        later_leaves (effect_of (fine.procedure i) first.others m) (((fine.procedure i).action first.call).effect m)
        (subst (λ s. effect_of (fine.procedure i) s m ≡ Leaves) first.steps_are (left_too a (first.left l m same passes).0))

    -- a coarse point with no call has steps with none
    quiet : (a : Point) → ((coarse.procedure i).action a).callee ≡ None → CallNothing (fine.procedure i) (r.steps i a)
    quiet a n = elim (refined.callees i a) [
      | inl both ↦ both.1
      | inr calls ↦ absurd (cc (n, calls.1))
    ]

    -- From coarse to fine.

    module _ (up : (j : ℕ) → changed j l → fine_changed j m) where
      called_up : {j : ℕ} {a : Point} → ((coarse.procedure i).action a).callee ≡ Some j → (first : CallsFirst coarse fine r i j a)
          → CallChanges changed ((coarse.procedure i).action a).callee l → CallChanges fine_changed ((fine.procedure i).action first.call).callee m
      called_up {j} e first c = subst (λ x. CallChanges fine_changed x m) (sym first.calls) (up j (subst (λ x. CallChanges changed x l) e c))

      written_by_call : (a : Point) (passed : List FinePoint) → CallChanges changed ((coarse.procedure i).action a).callee l → IsWritten fine_changed (fine.procedure i) m (onto (r.steps i a) passed)
      written_by_call a passed c = elim (refined.callees i a) [
        | inl both ↦ absurd (steps.uncalled changed (coarse.procedure i) l both.0 c)
        | inr calls ↦ let first = calls.2 in subst (λ s. IsWritten fine_changed (fine.procedure i) m (onto s passed)) (sym first.steps_are)
            (steps.written_on fine_changed (fine.procedure i) m first.others (first.call ∷ passed) (IsWritten.by_call (called_up calls.1 first c)))
      ]

      written_at : (a : Point) (passed : List FinePoint) → is_left (((coarse.procedure i).action a).effect l) ≡ false → IsWritten fine_changed (fine.procedure i) m (onto (r.steps i a) passed)
      written_at a passed w = elim (effects a) [
        | EffectCases.both_left f g ↦ absurd (true≢false (sym (ap is_left f) ∙ w))
        | EffectCases.both_lost o p ↦ steps.written_here fine_changed (fine.procedure i) m (r.steps i a) passed (effect_of (fine.procedure i) (r.steps i a) m) refl (steps.at_once_writes (fine.procedure i) p)
        | EffectCases.both_popped {other = v} f g o p s ↦ steps.written_here fine_changed (fine.procedure i) m (r.steps i a) passed (Pops v) g refl
      ]

      written_up : {passed : List Point} → IsWritten changed (coarse.procedure i) l passed → IsWritten fine_changed (fine.procedure i) m (flat i passed)
      written_up (IsWritten.by_point {a = a} {passed = passed} e) = written_at a (flat i passed) e
      written_up (IsWritten.by_call {a = a} {passed = passed} c) = written_by_call a (flat i passed) c
      written_up (IsWritten.before {a = a} {passed = passed} w) = steps.written_on fine_changed (fine.procedure i) m (r.steps i a) (flat i passed) (written_up w)

      module _ (w : Word) (v : FineWord) (both : r.same_word i w v) where
        spoiled_at : (a : Point) (passed : List FinePoint) (x : WordEffect Location) → ((coarse.procedure i).action a).word_effect w ≡ x → Spoils l x
            → IsUnsaved fine_changed (fine.procedure i) m v (onto (r.steps i a) passed)
        spoiled_at a passed x e s = elim (words both a) [
          | WordCases.both_left f g ↦ absurd (leave_spoils_not s (sym e ∙ f))
          | WordCases.both_pushed f g ↦ absurd (push_spoils_not s (sym e ∙ f))
          | WordCases.both_spoiled f g ↦ steps.spoiled_on fine_changed (fine.procedure i) m v (r.steps i a) passed (word_effect_of (fine.procedure i) (r.steps i a) v) refl g
        ]

        late_at : (a : Point) (passed : List FinePoint) → ((coarse.procedure i).action a).word_effect w ≡ Pushes l → IsWritten fine_changed (fine.procedure i) m passed
            → IsUnsaved fine_changed (fine.procedure i) m v (onto (r.steps i a) passed)
        late_at a passed e u = elim (words both a) [
          | WordCases.both_left f g ↦ absurd (cc (e, f))
          | WordCases.both_pushed f g ↦ steps.pushed_on fine_changed (fine.procedure i) m v (r.steps i a) passed g u
          | WordCases.both_spoiled f g ↦ absurd (push_spoils_not f e)
        ]

        kept_at : (a : Point) (passed : List FinePoint) → ((coarse.procedure i).action a).word_effect w ≡ LeavesWord → IsUnsaved fine_changed (fine.procedure i) m v passed
            → IsUnsaved fine_changed (fine.procedure i) m v (onto (r.steps i a) passed)
        kept_at a passed e u = elim (words both a) [
          | WordCases.both_left f g ↦ steps.unsaved_on fine_changed (fine.procedure i) m v (r.steps i a) passed g u
          | WordCases.both_pushed f g ↦ absurd (cc (e, f))
          | WordCases.both_spoiled f g ↦ absurd (leave_spoils_not f e)
        ]

        unsaved_up : {passed : List Point} → IsUnsaved changed (coarse.procedure i) l w passed → IsUnsaved fine_changed (fine.procedure i) m v (flat i passed)
        unsaved_up IsUnsaved.unpushed = IsUnsaved.unpushed
        unsaved_up (IsUnsaved.overwritten {a = a} {passed = passed} e) = spoiled_at a (flat i passed) Overwrites e Spoils.overwritten
        unsaved_up (IsUnsaved.by_other {a = a} {passed = passed} {other = other} e n) = spoiled_at a (flat i passed) (Pushes other) e (Spoils.by_other n)
        unsaved_up (IsUnsaved.too_late {a = a} {passed = passed} e u) = late_at a (flat i passed) e (written_up u)
        unsaved_up (IsUnsaved.kept {a = a} {passed = passed} e u) = kept_at a (flat i passed) e (unsaved_up u)

      lost_by_call : (a : Point) (passed : List FinePoint) → CallChanges changed ((coarse.procedure i).action a).callee l → Loses fine_changed (fine.procedure i) m (onto (r.steps i a) passed)
      lost_by_call a passed c = elim (refined.callees i a) [
        | inl both ↦ absurd (steps.uncalled changed (coarse.procedure i) l both.0 c)
        | inr calls ↦ let first = calls.2 in subst (λ s. Loses fine_changed (fine.procedure i) m (onto s passed)) (sym first.steps_are)
            (steps.loses_on fine_changed (fine.procedure i) m first.others (first.call ∷ passed) (call_left first).0 (Loses.in_call (called_up calls.1 first c)))
      ]

      lost_at : (a : Point) (passed : List FinePoint) (x : Effect Location Word) → ((coarse.procedure i).action a).effect l ≡ x → LosesAtOnce (coarse.procedure i) x
          → Loses fine_changed (fine.procedure i) m (onto (r.steps i a) passed)
      lost_at a passed x e q = elim (effects a) [
        | EffectCases.both_left f g ↦ absurd (steps.at_once_leaves_not (coarse.procedure i) q (sym e ∙ f))
        | EffectCases.both_lost o p ↦ steps.loses_here fine_changed (fine.procedure i) m (r.steps i a) passed (effect_of (fine.procedure i) (r.steps i a) m) refl p
        | EffectCases.both_popped f g o p s ↦ absurd (open_pop q (sym e ∙ f) o)
      ]

      popped_at : (a : Point) (passed : List Point) (w : Word) → ((coarse.procedure i).action a).effect l ≡ Pops w → IsUnsaved changed (coarse.procedure i) l w passed
          → Loses fine_changed (fine.procedure i) m (onto (r.steps i a) (flat i passed))
      popped_at a passed w e u = elim (effects a) [
        | EffectCases.both_left f g ↦ absurd (cc (e, f))
        | EffectCases.both_lost o p ↦ steps.loses_here fine_changed (fine.procedure i) m (r.steps i a) (flat i passed) (effect_of (fine.procedure i) (r.steps i a) m) refl p
        | EffectCases.both_popped {word = x} {other = v} f g o p s ↦
            let word_is : x ≡ w = cc (e, f) in
            let s' = subst (λ y. r.same_word i y v) word_is s in
            steps.popped_on fine_changed (fine.procedure i) m v (r.steps i a) (flat i passed) g
            ((refined.changes i a).popped l m w v same passes s' e) (unsaved_up w v s' u)
      ]

      pub loses_up : {passed : List Point} → Loses changed (coarse.procedure i) l passed → Loses fine_changed (fine.procedure i) m (flat i passed)
      loses_up (Loses.in_call {a = a} {passed = passed} c) = lost_by_call a (flat i passed) c
      loses_up (Loses.made {a = a} {passed = passed} e) = lost_at a (flat i passed) Makes e LosesAtOnce.made
      loses_up (Loses.copied {a = a} {passed = passed} {other = other} e) = lost_at a (flat i passed) (Copies other) e LosesAtOnce.copied
      loses_up (Loses.popped_open {a = a} {passed = passed} {word = w} e o) = lost_at a (flat i passed) (Pops w) e (LosesAtOnce.popped_open o)
      loses_up (Loses.popped_unsaved {a = a} {passed = passed} {word = w} e u) = popped_at a passed w e u
      loses_up (Loses.left {a = a} {passed = passed} e lost) = steps.loses_on fine_changed (fine.procedure i) m (r.steps i a) (flat i passed) (left_too a e) (loses_up lost)

    -- From fine to coarse.

    module _ (down : (j : ℕ) → fine_changed j m → changed j l) where
      called_down : {j : ℕ} {a : Point} → ((coarse.procedure i).action a).callee ≡ Some j → (first : CallsFirst coarse fine r i j a)
          → CallChanges fine_changed ((fine.procedure i).action first.call).callee m → CallChanges changed ((coarse.procedure i).action a).callee l
      called_down {j} e first c = subst (λ x. CallChanges changed x l) (sym e) (down j (subst (λ x. CallChanges fine_changed x m) first.calls c))

      written_first : {a : FinePoint} {passed : List FinePoint} → ((fine.procedure i).action a).effect m ≡ Leaves → IsWritten fine_changed (fine.procedure i) m (a ∷ passed)
          → CallChanges fine_changed ((fine.procedure i).action a).callee m ⊎ IsWritten fine_changed (fine.procedure i) m passed
      written_first e (IsWritten.by_point f) = absurd (true≢false (sym (ap is_left e) ∙ f))
      written_first e (IsWritten.by_call c) = inl c
      written_first e (IsWritten.before w) = inr w

      -- after the steps of one point, given the same before them
      written_point : (a : Point) (passed : List Point) → (IsWritten fine_changed (fine.procedure i) m (flat i passed) → IsWritten changed (coarse.procedure i) l passed)
          → IsWritten fine_changed (fine.procedure i) m (onto (r.steps i a) (flat i passed)) → IsWritten changed (coarse.procedure i) l (a ∷ passed)
      written_point a passed rest w = elim (refined.callees i a) [
        | inl both ↦ elim (effects a) [
          | EffectCases.both_left f g ↦ IsWritten.before (rest (steps.written_back fine_changed (fine.procedure i) m (r.steps i a) (flat i passed) g both.1 w))
          | EffectCases.both_lost o p ↦ IsWritten.by_point (steps.at_once_writes (coarse.procedure i) o)
          | EffectCases.both_popped f g o p s ↦ IsWritten.by_point (ap is_left f)
        ]
        | inr calls ↦ let first = calls.2 in
            elim (written_first (call_left first).1 (steps.written_back fine_changed (fine.procedure i) m first.others (first.call ∷ flat i passed) (call_left first).0 first.then
            (subst (λ s. IsWritten fine_changed (fine.procedure i) m (onto s (flat i passed))) first.steps_are w))) [
              | inl c ↦ IsWritten.by_call (called_down calls.1 first c)
              | inr before ↦ IsWritten.before (rest before)
            ]
      ]

      written_down : (passed : List Point) → IsWritten fine_changed (fine.procedure i) m (flat i passed) → IsWritten changed (coarse.procedure i) l passed
      written_down [] w = elim w [ ]
      written_down (a ∷ passed) w = written_point a passed (λ x. written_down passed x) w

      module _ (w : Word) (v : FineWord) (both : r.same_word i w v) where
        spoiled_point : (a : Point) (passed : List Point) (x : WordEffect Location) → ((coarse.procedure i).action a).word_effect w ≡ x → Spoils l x → IsUnsaved changed (coarse.procedure i) l w (a ∷ passed)
        spoiled_point a passed LeavesWord e s = elim s [ ]
        spoiled_point a passed Overwrites e Spoils.overwritten = IsUnsaved.overwritten e
        spoiled_point a passed (Pushes other) e (Spoils.by_other n) = IsUnsaved.by_other e n

        unsaved_point : (a : Point) (passed : List Point) → (IsUnsaved fine_changed (fine.procedure i) m v (flat i passed) → IsUnsaved changed (coarse.procedure i) l w passed)
            → IsUnsaved fine_changed (fine.procedure i) m v (onto (r.steps i a) (flat i passed)) → IsUnsaved changed (coarse.procedure i) l w (a ∷ passed)
        unsaved_point a passed rest u = elim (words both a) [
          | WordCases.both_left f g ↦ IsUnsaved.kept f (rest (steps.unsaved_back fine_changed (fine.procedure i) m v (r.steps i a) (flat i passed) g u))
          | WordCases.both_pushed f g ↦ let facts = (refined.changes i a).pushed l m w same passes f in
              IsUnsaved.too_late f (written_down passed (steps.pushed_back fine_changed (fine.procedure i) m v (r.steps i a) (flat i passed) g facts.1 (quiet a facts.0) u))
          | WordCases.both_spoiled f g ↦ spoiled_point a passed (((coarse.procedure i).action a).word_effect w) refl f
        ]

        unsaved_down : (passed : List Point) → IsUnsaved fine_changed (fine.procedure i) m v (flat i passed) → IsUnsaved changed (coarse.procedure i) l w passed
        unsaved_down [] u = IsUnsaved.unpushed
        unsaved_down (a ∷ passed) u = unsaved_point a passed (λ x. unsaved_down passed x) u

      loses_point : (a : Point) (passed : List Point) → (Loses fine_changed (fine.procedure i) m (flat i passed) → Loses changed (coarse.procedure i) l passed)
          → Loses fine_changed (fine.procedure i) m (onto (r.steps i a) (flat i passed)) → Loses changed (coarse.procedure i) l (a ∷ passed)
      loses_point a passed rest lost = elim (refined.callees i a) [
        | inl both ↦ elim (effects a) [
          | EffectCases.both_left f g ↦ Loses.left f (rest (steps.loses_back fine_changed (fine.procedure i) m (r.steps i a) (flat i passed) g both.1 lost))
          | EffectCases.both_lost o p ↦ steps.lost_at changed (coarse.procedure i) l refl o
          | EffectCases.both_popped {word = w} {other = v} f g o p s ↦ Loses.popped_unsaved f (unsaved_down w v s passed
              (steps.popped_back fine_changed (fine.procedure i) m v (r.steps i a) (flat i passed) g ((refined.changes i a).popped l m w v same passes s f) both.1 p lost))
        ]
        | inr calls ↦ let first = calls.2 in
            elim (steps.lost_before fine_changed (fine.procedure i) m (call_left first).1 (steps.loses_back fine_changed (fine.procedure i) m first.others (first.call ∷ flat i passed) (call_left first).0 first.then
            (subst (λ s. Loses fine_changed (fine.procedure i) m (onto s (flat i passed))) first.steps_are lost))) [
              | inl c ↦ Loses.in_call (called_down calls.1 first c)
              | inr before ↦ Loses.left (first.left l m same passes).0 (rest before)
            ]
      ]

      pub loses_down : (passed : List Point) → Loses fine_changed (fine.procedure i) m (flat i passed) → Loses changed (coarse.procedure i) l passed
      loses_down [] lost = elim lost [ ]
      loses_down (a ∷ passed) lost = loses_point a passed (λ x. loses_down passed x) lost
