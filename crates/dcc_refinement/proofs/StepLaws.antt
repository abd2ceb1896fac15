-- What is written, unsaved and lost after points that stand one after another, by the effects of all of them.
use Rattle.std.proofs.Common.{◌≡◌, ℕ, true, false, ◌⊎◌, inl, inr, List, [], ◌∷◌, ◌++◌, refl, sym, ap, ◌∙◌, subst, true≢false}
use Rattle.std.specs.Prelude.{Option, None}
use Rattle.dcc_demand.specs.Procedures.{Effect, Leaves, Copies, Pops, Makes, WordEffect, LeavesWord, Pushes, Overwrites, Procedure, is_left, ChangeFamily, CallChanges}
use Rattle.dcc_demand.specs.Changes.{IsWritten, IsUnsaved, Loses}
use Rattle.dcc_refinement.specs.Steps.{later_effect, later_word_effect, effect_of, word_effect_of, CallNothing}
use Rattle.dcc_refinement.specs.Steps.{LosesAtOnce, Spoils}

-- points, the oldest first, put onto a list that has the newest first
abbrev pub onto : {Point : Type 0} → List Point → List Point → List Point
onto [] passed = passed
onto (a ∷ steps) passed = onto steps (a ∷ passed)

pub onto-append : {Point : Type 0} (xs ys passed : List Point) → onto (xs ++ ys) passed ≡ onto ys (onto xs passed)
onto-append [] ys passed = refl
onto-append (x ∷ xs) ys passed = onto-append xs ys (x ∷ passed)

-- Two effects, the later one first.

module _ {Location Word : Type 0} where
  pub later_leaves : (x y : Effect Location Word) → later_effect x y ≡ Leaves → (x ≡ Leaves) × (y ≡ Leaves)
  later_leaves Leaves y e = (refl, e)
  later_leaves (Copies other) y e = absurd (cc e)
  later_leaves (Pops word) y e = absurd (cc e)
  later_leaves Makes y e = absurd (cc e)

  later_cases : (x y z : Effect Location Word) → later_effect x y ≡ z → ((x ≡ Leaves) × (y ≡ z)) ⊎ (x ≡ z)
  later_cases Leaves y z e = inl (refl, e)
  later_cases (Copies other) y z e = inr e
  later_cases (Pops word) y z e = inr e
  later_cases Makes y z e = inr e

module _ {Location : Type 0} where
  later_leaves_word : (x y : WordEffect Location) → later_word_effect x y ≡ LeavesWord → (x ≡ LeavesWord) × (y ≡ LeavesWord)
  later_leaves_word LeavesWord y e = (refl, e)
  later_leaves_word (Pushes other) y e = absurd (cc e)
  later_leaves_word Overwrites y e = absurd (cc e)

  later_word_cases : (x y z : WordEffect Location) → later_word_effect x y ≡ z → ((x ≡ LeavesWord) × (y ≡ z)) ⊎ (x ≡ z)
  later_word_cases LeavesWord y z e = inl (refl, e)
  later_word_cases (Pushes other) y z e = inr e
  later_word_cases Overwrites y z e = inr e

module _ {Point Location Word : Type 0} (g : Procedure Point Location Word) where
  pub at_once_writes : {x : Effect Location Word} → LosesAtOnce g x → is_left x ≡ false
  at_once_writes LosesAtOnce.made = refl
  at_once_writes LosesAtOnce.copied = refl
  at_once_writes (LosesAtOnce.popped_open o) = refl

  pub at_once_leaves_not : {x : Effect Location Word} → LosesAtOnce g x → x ≡ Leaves → ⊥
  at_once_leaves_not LosesAtOnce.made e = cc e
  at_once_leaves_not LosesAtOnce.copied e = cc e
  at_once_leaves_not (LosesAtOnce.popped_open o) e = cc e

module _ {Point Location Word : Type 0} (changed : ChangeFamily Location) (g : Procedure Point Location Word) (l : Location) where
  pub uncalled : {callee : Option ℕ} → callee ≡ None → CallChanges changed callee l → ⊥
  uncalled n c = subst (λ x. CallChanges changed x l) n c

  -- Writing.

  pub written_on : (steps passed : List Point) → IsWritten changed g l passed → IsWritten changed g l (onto steps passed)
  written_on [] passed w = w
  written_on (a ∷ steps) passed w = written_on steps (a ∷ passed) (IsWritten.before w)

  written_before : {a : Point} {passed : List Point} → (g.action a).effect l ≡ Leaves → (g.action a).callee ≡ None → IsWritten changed g l (a ∷ passed) → IsWritten changed g l passed
  written_before e n (IsWritten.by_point f) = absurd (true≢false (sym (ap is_left e) ∙ f))
  written_before e n (IsWritten.by_call c) = absurd (uncalled n c)
  written_before e n (IsWritten.before w) = w

  pub written_back : (steps passed : List Point) → effect_of g steps l ≡ Leaves → CallNothing g steps → IsWritten changed g l (onto steps passed) → IsWritten changed g l passed
  written_back [] passed e n w = w
  written_back (a ∷ steps) passed e n w =
      let both = later_leaves (effect_of g steps l) ((g.action a).effect l) e in
      written_before both.1 n.0 (written_back steps (a ∷ passed) both.0 n.1 w)

  pub written_here : (steps passed : List Point) (x : Effect Location Word) → effect_of g steps l ≡ x → is_left x ≡ false → IsWritten changed g l (onto steps passed)
  written_here [] passed x e w = absurd (true≢false (ap is_left e ∙ w))
  written_here (a ∷ steps) passed x e w = elim (later_cases (effect_of g steps l) ((g.action a).effect l) x e) [
    | inl s ↦ written_on steps (a ∷ passed) (IsWritten.by_point (ap is_left s.1 ∙ w))
    | inr s ↦ written_here steps (a ∷ passed) x s w
  ]

  -- Words.

  module _ (word : Word) where
    pub unsaved_on : (steps passed : List Point) → word_effect_of g steps word ≡ LeavesWord → IsUnsaved changed g l word passed → IsUnsaved changed g l word (onto steps passed)
    unsaved_on [] passed e u = u
    unsaved_on (a ∷ steps) passed e u =
        let both = later_leaves_word (word_effect_of g steps word) ((g.action a).word_effect word) e in
        unsaved_on steps (a ∷ passed) both.0 (IsUnsaved.kept both.1 u)

    unsaved_before : {a : Point} {passed : List Point} → (g.action a).word_effect word ≡ LeavesWord → IsUnsaved changed g l word (a ∷ passed) → IsUnsaved changed g l word passed
    unsaved_before e (IsUnsaved.overwritten f) = absurd (cc (e, f))
    unsaved_before e (IsUnsaved.by_other f n) = absurd (cc (e, f))
    unsaved_before e (IsUnsaved.too_late f w) = absurd (cc (e, f))
    unsaved_before e (IsUnsaved.kept f u) = u

    pub unsaved_back : (steps passed : List Point) → word_effect_of g steps word ≡ LeavesWord → IsUnsaved changed g l word (onto steps passed) → IsUnsaved changed g l word passed
    unsaved_back [] passed e u = u
    unsaved_back (a ∷ steps) passed e u =
        let both = later_leaves_word (word_effect_of g steps word) ((g.action a).word_effect word) e in
        unsaved_before both.1 (unsaved_back steps (a ∷ passed) both.0 u)

    spoiled_at : {a : Point} {passed : List Point} {x : WordEffect Location} → (g.action a).word_effect word ≡ x → Spoils l x → IsUnsaved changed g l word (a ∷ passed)
    spoiled_at e Spoils.overwritten = IsUnsaved.overwritten e
    spoiled_at e (Spoils.by_other n) = IsUnsaved.by_other e n

    leaves_spoils_not : {x : WordEffect Location} → Spoils l x → x ≡ LeavesWord → ⊥
    leaves_spoils_not Spoils.overwritten e = cc e
    leaves_spoils_not (Spoils.by_other n) e = cc e

    pub spoiled_on : (steps passed : List Point) (x : WordEffect Location) → word_effect_of g steps word ≡ x → Spoils l x → IsUnsaved changed g l word (onto steps passed)
    spoiled_on [] passed x e s = absurd (leaves_spoils_not s (sym e))
    spoiled_on (a ∷ steps) passed x e s = elim (later_word_cases (word_effect_of g steps word) ((g.action a).word_effect word) x e) [
      | inl h ↦ unsaved_on steps (a ∷ passed) h.0 (spoiled_at h.1 s)
      | inr h ↦ spoiled_on steps (a ∷ passed) x h s
    ]

    pub pushed_on : (steps passed : List Point) → word_effect_of g steps word ≡ Pushes l → IsWritten changed g l passed → IsUnsaved changed g l word (onto steps passed)
    pushed_on [] passed e w = absurd (cc e)
    pushed_on (a ∷ steps) passed e w = elim (later_word_cases (word_effect_of g steps word) ((g.action a).word_effect word) (Pushes l) e) [
      | inl h ↦ unsaved_on steps (a ∷ passed) h.0 (IsUnsaved.too_late h.1 w)
      | inr h ↦ pushed_on steps (a ∷ passed) h (IsWritten.before w)
    ]

    late_at : {a : Point} {passed : List Point} → (g.action a).word_effect word ≡ Pushes l → IsUnsaved changed g l word (a ∷ passed) → IsWritten changed g l passed
    late_at e (IsUnsaved.overwritten f) = absurd (cc (e, f))
    late_at e (IsUnsaved.by_other f n) = absurd (n (cc (e, f)))
    late_at e (IsUnsaved.too_late f w) = w
    late_at e (IsUnsaved.kept f u) = absurd (cc (e, f))

    pub pushed_back : (steps passed : List Point) → word_effect_of g steps word ≡ Pushes l → effect_of g steps l ≡ Leaves → CallNothing g steps → IsUnsaved changed g l word (onto steps passed) → IsWritten changed g l passed
    pushed_back [] passed e left n u = absurd (cc e)
    pushed_back (a ∷ steps) passed e left n u = elim (later_word_cases (word_effect_of g steps word) ((g.action a).word_effect word) (Pushes l) e) [
      | inl h ↦ late_at h.1 (unsaved_back steps (a ∷ passed) h.0 u)
      | inr h ↦ let both = later_leaves (effect_of g steps l) ((g.action a).effect l) left in written_before both.1 n.0 (pushed_back steps (a ∷ passed) h both.0 n.1 u)
    ]

  -- Losing.

  pub loses_on : (steps passed : List Point) → effect_of g steps l ≡ Leaves → Loses changed g l passed → Loses changed g l (onto steps passed)
  loses_on [] passed e lost = lost
  loses_on (a ∷ steps) passed e lost =
      let both = later_leaves (effect_of g steps l) ((g.action a).effect l) e in
      loses_on steps (a ∷ passed) both.0 (Loses.left both.1 lost)

  -- before a point that leaves it and calls nothing, or whose call changes it
  pub lost_before : {a : Point} {passed : List Point} → (g.action a).effect l ≡ Leaves → Loses changed g l (a ∷ passed) → CallChanges changed (g.action a).callee l ⊎ Loses changed g l passed
  lost_before e (Loses.in_call c) = inl c
  lost_before e (Loses.made f) = absurd (cc (e, f))
  lost_before e (Loses.copied f) = absurd (cc (e, f))
  lost_before e (Loses.popped_open f o) = absurd (cc (e, f))
  lost_before e (Loses.popped_unsaved f u) = absurd (cc (e, f))
  lost_before e (Loses.left f lost) = inr lost

  pub loses_back : (steps passed : List Point) → effect_of g steps l ≡ Leaves → CallNothing g steps → Loses changed g l (onto steps passed) → Loses changed g l passed
  loses_back [] passed e n lost = lost
  loses_back (a ∷ steps) passed e n lost = by (lost_before both.1 (loses_back steps (a ∷ passed) both.0 n.1 lost))
    where
      both : (effect_of g steps l ≡ Leaves) × ((g.action a).effect l ≡ Leaves)
      both = later_leaves (effect_of g steps l) ((g.action a).effect l) e

      by : CallChanges changed (g.action a).callee l ⊎ Loses changed g l passed → Loses changed g l passed
      by (inl c) = absurd (uncalled n.0 c)
      by (inr rest) = rest

  pub lost_at : {a : Point} {passed : List Point} {x : Effect Location Word} → (g.action a).effect l ≡ x → LosesAtOnce g x → Loses changed g l (a ∷ passed)
  lost_at e LosesAtOnce.made = Loses.made e
  lost_at e LosesAtOnce.copied = Loses.copied e
  lost_at e (LosesAtOnce.popped_open o) = Loses.popped_open e o

  pub loses_here : (steps passed : List Point) (x : Effect Location Word) → effect_of g steps l ≡ x → LosesAtOnce g x → Loses changed g l (onto steps passed)
  loses_here [] passed x e o = absurd (at_once_leaves_not g o (sym e))
  loses_here (a ∷ steps) passed x e o = elim (later_cases (effect_of g steps l) ((g.action a).effect l) x e) [
    | inl s ↦ loses_on steps (a ∷ passed) s.0 (lost_at s.1 o)
    | inr s ↦ loses_here steps (a ∷ passed) x s o
  ]

  module _ (word : Word) where
    pub popped_on : (steps passed : List Point) → effect_of g steps l ≡ Pops word → word_effect_of g steps word ≡ LeavesWord → IsUnsaved changed g l word passed → Loses changed g l (onto steps passed)
    popped_on [] passed e k u = absurd (cc e)
    popped_on (a ∷ steps) passed e k u = elim (later_cases (effect_of g steps l) ((g.action a).effect l) (Pops word) e) [
      | inl s ↦ loses_on steps (a ∷ passed) s.0 (Loses.popped_unsaved s.1 u)
      | inr s ↦ let both = later_leaves_word (word_effect_of g steps word) ((g.action a).word_effect word) k in popped_on steps (a ∷ passed) s both.0 (IsUnsaved.kept both.1 u)
    ]

    unsaved_at : {a : Point} {passed : List Point} → (g.action a).effect l ≡ Pops word → (g.action a).callee ≡ None → g.is_private word ≡ true → Loses changed g l (a ∷ passed) → IsUnsaved changed g l word passed
    unsaved_at e n p (Loses.in_call c) = absurd (uncalled n c)
    unsaved_at e n p (Loses.made f) = absurd (cc (e, f))
    unsaved_at e n p (Loses.copied f) = absurd (cc (e, f))
    unsaved_at e n p (Loses.popped_open {word = other} f o) =
        let same : other ≡ word = cc (e, f) in absurd (true≢false (sym p ∙ subst (λ w. g.is_private w ≡ false) same o))
    unsaved_at e n p (Loses.popped_unsaved {passed = passed} {word = other} f u) =
        let same : other ≡ word = cc (e, f) in subst (λ w. IsUnsaved changed g l w passed) same u
    unsaved_at e n p (Loses.left f lost) = absurd (cc (e, f))

    pub popped_back : (steps passed : List Point) → effect_of g steps l ≡ Pops word → word_effect_of g steps word ≡ LeavesWord → CallNothing g steps → g.is_private word ≡ true → Loses changed g l (onto steps passed) → IsUnsaved changed g l word passed
    popped_back [] passed e k n p lost = absurd (cc e)
    popped_back (a ∷ steps) passed e k n p lost = elim (later_cases (effect_of g steps l) ((g.action a).effect l) (Pops word) e) [
      | inl s ↦ unsaved_at s.1 n.0 p (loses_back steps (a ∷ passed) s.0 n.1 lost)
      | inr s ↦ let both = later_leaves_word (word_effect_of g steps word) ((g.action a).word_effect word) k in unsaved_before word both.1 (popped_back steps (a ∷ passed) s both.0 n.1 p lost)
    ]
