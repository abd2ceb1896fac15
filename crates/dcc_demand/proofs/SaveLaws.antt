-- Losing is writing and not saving; what a trail saves, or doesn't write, it holds.
use Rattle.std.proofs.Common.{◌≡◌, ℕ, Bool, true, false, ◌⊎◌, inl, inr, List, [], ◌∷◌, refl, sym, ◌∙◌, subst, true≢false}
use Rattle.std.specs.Prelude.{Option, Some, None}
use Rattle.dcc_demand.specs.Procedures.{Effect, Leaves, Copies, Pops, Makes, WordEffect, LeavesWord, Pushes, Overwrites, Procedure, Procedures, is_left, ChangeFamily, CallChanges}
use Rattle.dcc_demand.specs.Trail.{IsTrail}
use Rattle.dcc_demand.specs.Changes.{IsWritten, IsUnsaved, Loses, Changes, IsPreserved}
use Rattle.dcc_demand.specs.Saves.{IsSaved, Saves}
use Rattle.dcc_demand.specs.Holds.{Holds, WordHolds}
use Rattle.dcc_demand.specs.Laws.{AreDecided, IsDecided, LosingIsNotSaving, PreservedIsHeld}
use Rattle.dcc_demand.proofs.ChangeLaws.{changes-closed}

module _ {Point Location Word : Type 0} (changed : ChangeFamily Location) (procedure : Procedure Point Location Word) (l : Location) where
  -- What isn't written is held.

  unwritten_effect : {a : Point} {passed : List Point} → ¬ IsWritten changed procedure l (a ∷ passed) → (effect : Effect Location Word) → (procedure.action a).effect l ≡ effect → effect ≡ Leaves
  unwritten_effect n Leaves e = refl
  unwritten_effect {a = a} n (Copies other) e = absurd (n (IsWritten.by_point (cc e)))
  unwritten_effect {a = a} n (Pops word) e = absurd (n (IsWritten.by_point (cc e)))
  unwritten_effect {a = a} n Makes e = absurd (n (IsWritten.by_point (cc e)))

  pub unwritten_held : (passed : List Point) → ¬ IsWritten changed procedure l passed → Holds changed procedure l passed l
  unwritten_held [] n = Holds.begun
  unwritten_held (a ∷ passed) n =
      Holds.left (unwritten_effect n ((procedure.action a).effect l) refl) (λ c. n (IsWritten.by_call c)) (unwritten_held passed (λ w. n (IsWritten.before w)))

  -- What is saved is held.

  saved_held : {word : Word} {passed : List Point} → IsSaved changed procedure l word passed → WordHolds changed procedure l passed word
  saved_held (IsSaved.pushed {passed = passed} e n) = WordHolds.pushed e (unwritten_held passed n)
  saved_held (IsSaved.kept e s) = WordHolds.kept e (saved_held s)

  pub saves_held : {passed : List Point} → Saves changed procedure l passed → Holds changed procedure l passed l
  saves_held (Saves.popped e n o s) = Holds.popped e n o (saved_held s)
  saves_held (Saves.left e n s) = Holds.left e n (saves_held s)

  -- What isn't lost is saved or isn't written, so it is held.

  module _ (decided : AreDecided Location) where
    pushed_held : (word : Word) {a : Point} {other : Location} (passed : List Point) → (procedure.action a).word_effect word ≡ Pushes other → (other ≡ l) ⊎ ¬ (other ≡ l)
        → ¬ IsUnsaved changed procedure l word (a ∷ passed) → WordHolds changed procedure l (a ∷ passed) word
    pushed_held word {a = a} passed e (inl same) n =
        let f : (procedure.action a).word_effect word ≡ Pushes l = cc (e, same) in
        WordHolds.pushed f (unwritten_held passed (λ w. n (IsUnsaved.too_late f w)))
    pushed_held word passed e (inr differs) n = absurd (n (IsUnsaved.by_other e differs))

    word_held : (word : Word) (passed : List Point) → ¬ IsUnsaved changed procedure l word passed → WordHolds changed procedure l passed word
    word_held word [] n = absurd (n IsUnsaved.unpushed)
    word_held word (a ∷ passed) n = by ((procedure.action a).word_effect word) refl (word_held word passed)
      where
        by : (effect : WordEffect Location) → (procedure.action a).word_effect word ≡ effect
            → (¬ IsUnsaved changed procedure l word passed → WordHolds changed procedure l passed word) → WordHolds changed procedure l (a ∷ passed) word
        by LeavesWord e held = WordHolds.kept e (held (λ u. n (IsUnsaved.kept e u)))
        by (Pushes other) e held = pushed_held word passed e (decided other l) n
        by Overwrites e held = absurd (n (IsUnsaved.overwritten e))

    pub unlost_held : (passed : List Point) → ¬ Loses changed procedure l passed → Holds changed procedure l passed l
    unlost_held [] n = Holds.begun
    unlost_held (a ∷ passed) n = by ((procedure.action a).effect l) refl (unlost_held passed)
      where
        uncalled : ¬ CallChanges changed (procedure.action a).callee l
        uncalled c = n (Loses.in_call c)

        popped_held : {word : Word} → (procedure.action a).effect l ≡ Pops word → (b : Bool) → procedure.is_private word ≡ b → Holds changed procedure l (a ∷ passed) l
        popped_held {word = word} e true o = Holds.popped e uncalled o (word_held word passed (λ u. n (Loses.popped_unsaved e u)))
        popped_held e false o = absurd (n (Loses.popped_open e o))

        by : (effect : Effect Location Word) → (procedure.action a).effect l ≡ effect → (¬ Loses changed procedure l passed → Holds changed procedure l passed l) → Holds changed procedure l (a ∷ passed) l
        by Leaves e held = Holds.left e uncalled (held (λ lost. n (Loses.left e lost)))
        by (Copies other) e held = absurd (n (Loses.copied e))
        by (Pops word) e held = popped_held e (procedure.is_private word) refl
        by Makes e held = absurd (n (Loses.made e))

  -- What is lost is written and isn't saved.

  pub lost_written : {passed : List Point} → Loses changed procedure l passed → IsWritten changed procedure l passed
  lost_written (Loses.in_call c) = IsWritten.by_call c
  lost_written (Loses.made e) = IsWritten.by_point (cc e)
  lost_written (Loses.copied e) = IsWritten.by_point (cc e)
  lost_written (Loses.popped_open e o) = IsWritten.by_point (cc e)
  lost_written (Loses.popped_unsaved e u) = IsWritten.by_point (cc e)
  lost_written (Loses.left e lost) = IsWritten.before (lost_written lost)

  unsaved_clash : {word : Word} {passed : List Point} → IsUnsaved changed procedure l word passed → IsSaved changed procedure l word passed → ⊥
  unsaved_clash IsUnsaved.unpushed s = elim s [ ]
  unsaved_clash (IsUnsaved.overwritten e) (IsSaved.pushed f n) = cc (e, f)
  unsaved_clash (IsUnsaved.overwritten e) (IsSaved.kept f s) = cc (e, f)
  unsaved_clash (IsUnsaved.by_other e d) (IsSaved.pushed f n) = d (cc (e, f))
  unsaved_clash (IsUnsaved.by_other e d) (IsSaved.kept f s) = cc (e, f)
  unsaved_clash (IsUnsaved.too_late e w) (IsSaved.pushed f n) = n w
  unsaved_clash (IsUnsaved.too_late e w) (IsSaved.kept f s) = cc (e, f)
  unsaved_clash (IsUnsaved.kept e u) (IsSaved.pushed f n) = cc (e, f)
  unsaved_clash (IsUnsaved.kept e u) (IsSaved.kept f s) = unsaved_clash u s

  pub lost_unsaved : {passed : List Point} → Loses changed procedure l passed → Saves changed procedure l passed → ⊥
  lost_unsaved (Loses.in_call c) (Saves.popped f n o s) = n c
  lost_unsaved (Loses.in_call c) (Saves.left f n s) = n c
  lost_unsaved (Loses.made e) (Saves.popped f n o s) = cc (e, f)
  lost_unsaved (Loses.made e) (Saves.left f n s) = cc (e, f)
  lost_unsaved (Loses.copied e) (Saves.popped f n o s) = cc (e, f)
  lost_unsaved (Loses.copied e) (Saves.left f n s) = cc (e, f)
  lost_unsaved (Loses.popped_open {word = word} e seen) (Saves.popped {word = other} f n o s) =
      let same : word ≡ other = cc (e, f) in true≢false (sym o ∙ subst (λ w. procedure.is_private w ≡ false) same seen)
  lost_unsaved (Loses.popped_open e seen) (Saves.left f n s) = cc (e, f)
  lost_unsaved (Loses.popped_unsaved {passed = passed} {word = word} e u) (Saves.popped {word = other} f n o s) =
      let same : word ≡ other = cc (e, f) in unsaved_clash (subst (λ w. IsUnsaved changed procedure l w passed) same u) s
  lost_unsaved (Loses.popped_unsaved e u) (Saves.left f n s) = cc (e, f)
  lost_unsaved (Loses.left e lost) (Saves.popped f n o s) = cc (e, f)
  lost_unsaved (Loses.left e lost) (Saves.left f n s) = lost_unsaved lost s

  -- What is written is saved or lost, where it can be told what locations are one and what calls change.

  module _ (decided : AreDecided Location) (known : IsDecided changed) where
    call_known : (callee : Option ℕ) → CallChanges changed callee l ⊎ ¬ CallChanges changed callee l
    call_known (Some j) = known j l
    call_known None = inr (λ c. c)

    written_known : (passed : List Point) → IsWritten changed procedure l passed ⊎ ¬ IsWritten changed procedure l passed
    written_known [] = inr (λ w. elim w [ ])
    written_known (a ∷ passed) = by (is_left ((procedure.action a).effect l)) refl (call_known (procedure.action a).callee) (written_known passed)
      where
        none : is_left ((procedure.action a).effect l) ≡ true → ¬ CallChanges changed (procedure.action a).callee l → ¬ IsWritten changed procedure l passed → ¬ IsWritten changed procedure l (a ∷ passed)
        none e n m (IsWritten.by_point f) = true≢false (sym e ∙ f)
        none e n m (IsWritten.by_call c) = n c
        none e n m (IsWritten.before w) = m w

        by : (b : Bool) → is_left ((procedure.action a).effect l) ≡ b → CallChanges changed (procedure.action a).callee l ⊎ ¬ CallChanges changed (procedure.action a).callee l
            → IsWritten changed procedure l passed ⊎ ¬ IsWritten changed procedure l passed → IsWritten changed procedure l (a ∷ passed) ⊎ ¬ IsWritten changed procedure l (a ∷ passed)
        by false e called before = inl (IsWritten.by_point e)
        by true e (inl c) before = inl (IsWritten.by_call c)
        by true e (inr n) (inl w) = inl (IsWritten.before w)
        by true e (inr n) (inr m) = inr (none e n m)

    pushed_either : {word : Word} {a : Point} {other : Location} {passed : List Point} → (procedure.action a).word_effect word ≡ Pushes other → (other ≡ l) ⊎ ¬ (other ≡ l)
        → IsWritten changed procedure l passed ⊎ ¬ IsWritten changed procedure l passed → IsSaved changed procedure l word (a ∷ passed) ⊎ IsUnsaved changed procedure l word (a ∷ passed)
    pushed_either e (inl same) (inl w) = inr (IsUnsaved.too_late (cc (e, same)) w)
    pushed_either e (inl same) (inr n) = inl (IsSaved.pushed (cc (e, same)) n)
    pushed_either e (inr differs) known = inr (IsUnsaved.by_other e differs)

    saved_either : (word : Word) (passed : List Point) → IsSaved changed procedure l word passed ⊎ IsUnsaved changed procedure l word passed
    saved_either word [] = inr IsUnsaved.unpushed
    saved_either word (a ∷ passed) = by ((procedure.action a).word_effect word) refl (saved_either word passed)
      where
        by : (effect : WordEffect Location) → (procedure.action a).word_effect word ≡ effect → IsSaved changed procedure l word passed ⊎ IsUnsaved changed procedure l word passed
            → IsSaved changed procedure l word (a ∷ passed) ⊎ IsUnsaved changed procedure l word (a ∷ passed)
        by LeavesWord e (inl s) = inl (IsSaved.kept e s)
        by LeavesWord e (inr u) = inr (IsUnsaved.kept e u)
        by (Pushes other) e before = pushed_either e (decided other l) (written_known passed)
        by Overwrites e before = inr (IsUnsaved.overwritten e)

    pub saved_or_lost : (passed : List Point) → IsWritten changed procedure l passed → Saves changed procedure l passed ⊎ Loses changed procedure l passed
    saved_or_lost [] w = elim w [ ]
    saved_or_lost (a ∷ passed) w = by ((procedure.action a).effect l) refl (call_known (procedure.action a).callee) (saved_or_lost passed)
      where
        earlier : (procedure.action a).effect l ≡ Leaves → ¬ CallChanges changed (procedure.action a).callee l → IsWritten changed procedure l (a ∷ passed) → IsWritten changed procedure l passed
        earlier e n (IsWritten.by_point f) = cc (e, f)
        earlier e n (IsWritten.by_call c) = absurd (n c)
        earlier e n (IsWritten.before w) = w

        left_either : (procedure.action a).effect l ≡ Leaves → ¬ CallChanges changed (procedure.action a).callee l → Saves changed procedure l passed ⊎ Loses changed procedure l passed
            → Saves changed procedure l (a ∷ passed) ⊎ Loses changed procedure l (a ∷ passed)
        left_either e n (inl s) = inl (Saves.left e n s)
        left_either e n (inr lost) = inr (Loses.left e lost)

        popped_either : {word : Word} → (procedure.action a).effect l ≡ Pops word → ¬ CallChanges changed (procedure.action a).callee l → (b : Bool) → procedure.is_private word ≡ b
            → IsSaved changed procedure l word passed ⊎ IsUnsaved changed procedure l word passed → Saves changed procedure l (a ∷ passed) ⊎ Loses changed procedure l (a ∷ passed)
        popped_either e n true o (inl s) = inl (Saves.popped e n o s)
        popped_either e n false o (inl s) = inr (Loses.popped_open e o)
        popped_either e n b o (inr u) = inr (Loses.popped_unsaved e u)

        by : (effect : Effect Location Word) → (procedure.action a).effect l ≡ effect → CallChanges changed (procedure.action a).callee l ⊎ ¬ CallChanges changed (procedure.action a).callee l
            → (IsWritten changed procedure l passed → Saves changed procedure l passed ⊎ Loses changed procedure l passed) → Saves changed procedure l (a ∷ passed) ⊎ Loses changed procedure l (a ∷ passed)
        by effect e (inl c) before = inr (Loses.in_call c)
        by Leaves e (inr n) before = left_either e n (before (earlier e n w))
        by (Copies other) e (inr n) before = inr (Loses.copied e)
        by (Pops word) e (inr n) before = popped_either e n (procedure.is_private word) refl (saved_either word passed)
        by Makes e (inr n) before = inr (Loses.made e)

pub losing-not_saving : {Point Location Word : Type 0} (p : Procedures Point Location Word) (changed : ChangeFamily Location) → LosingIsNotSaving p changed
losing-not_saving p changed = record {
  written = λ i l passed lost. lost_written changed (p.procedure i) l lost;
  unsaved = λ i l passed lost saves. lost_unsaved changed (p.procedure i) l lost saves;
  either = λ decided known i l passed w. saved_or_lost changed (p.procedure i) l decided known passed w;
}

-- What is preserved is held at a return: else the trail would lose it.
module _ {Point Location Word : Type 0} (p : Procedures Point Location Word) (decided : AreDecided Location) (i : ℕ) (l : Location) (passed : List Point) (at : Point)
    (trail : IsTrail (p.procedure i) passed at) (returns : (p.procedure i).returns at ≡ true) where
  preserved_held : IsPreserved p i l → Holds (Changes p) (p.procedure i) l passed l
  preserved_held preserved = unlost_held (Changes p) (p.procedure i) l decided passed
      (λ lost. preserved.1 (changes-closed p i l (record { passes = preserved.0; passed = passed; at = at; trail = trail; returns = returns; loses = lost })))

  unheld_changed : IsDecided (Changes p) → p.passes l ≡ true → ¬ Holds (Changes p) (p.procedure i) l passed l → Changes p i l
  unheld_changed known passes n = elim (known i l) [ inl c ↦ c | inr unchanged ↦ absurd (n (preserved_held (passes, unchanged))) ]

pub preserved-is_held : {Point Location Word : Type 0} (p : Procedures Point Location Word) → PreservedIsHeld p
preserved-is_held p = record {
  held = λ decided i l passed at trail returns preserved. preserved_held p decided i l passed at trail returns preserved;
  changed = λ decided known i l passed at trail returns passes n. unheld_changed p decided i l passed at trail returns known passes n;
}
