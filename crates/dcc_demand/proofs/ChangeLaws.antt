-- What is changed is the least family closed under loss, and grows with the trails.
use Rattle.std.proofs.Common.{◌≡◌, ℕ, zero, suc, List, refl, sym, ap, ◌∙◌, subst}
use Rattle.std.specs.Prelude.{Option, Some, None}
use Rattle.dcc_demand.specs.Procedures.{Effect, WordEffect, Procedure, Procedures, is_left, ChangeFamily, CallChanges}
use Rattle.dcc_demand.specs.Changes.{IsWritten, IsUnsaved, Loses, IsLost, ChangesWithin, Changes, IsClosedUnderLoss}
use Rattle.dcc_demand.specs.Laws.{IsWithin, HasMoreTrails}

call_widens : {Location : Type 0} (less more : ChangeFamily Location) → IsWithin less more → (callee : Option ℕ) (l : Location) → CallChanges less callee l → CallChanges more callee l
call_widens less more within (Some j) l c = within j l c
call_widens less more within None l c = c

-- Where points do the same and calls change more, no less is written, unsaved and lost.

module _ {Point Location Word : Type 0} (less more : ChangeFamily Location) (within : IsWithin less more) (procedure other : Procedure Point Location Word)
    (action : (a : Point) → other.action a ≡ procedure.action a) (is_private : (word : Word) → other.is_private word ≡ procedure.is_private word) (l : Location) where
  same_effect : {a : Point} {effect : Effect Location Word} → (procedure.action a).effect l ≡ effect → (other.action a).effect l ≡ effect
  same_effect {a = a} e = ap (λ x. x.effect l) (action a) ∙ e

  same_word : {a : Point} {word : Word} {effect : WordEffect Location} → (procedure.action a).word_effect word ≡ effect → (other.action a).word_effect word ≡ effect
  same_word {a = a} {word = word} e = ap (λ x. x.word_effect word) (action a) ∙ e

  same_call : (a : Point) → CallChanges less (procedure.action a).callee l → CallChanges more (other.action a).callee l
  same_call a c = subst (λ x. CallChanges more x.callee l) (sym (action a)) (call_widens less more within (procedure.action a).callee l c)

  written_too : {passed : List Point} → IsWritten less procedure l passed → IsWritten more other l passed
  written_too (IsWritten.by_point {a = a} e) = IsWritten.by_point (ap (λ x. is_left (x.effect l)) (action a) ∙ e)
  written_too (IsWritten.by_call {a = a} c) = IsWritten.by_call (same_call a c)
  written_too (IsWritten.before w) = IsWritten.before (written_too w)

  unsaved_too : {word : Word} {passed : List Point} → IsUnsaved less procedure l word passed → IsUnsaved more other l word passed
  unsaved_too IsUnsaved.unpushed = IsUnsaved.unpushed
  unsaved_too (IsUnsaved.overwritten e) = IsUnsaved.overwritten (same_word e)
  unsaved_too (IsUnsaved.by_other e n) = IsUnsaved.by_other (same_word e) n
  unsaved_too (IsUnsaved.too_late e w) = IsUnsaved.too_late (same_word e) (written_too w)
  unsaved_too (IsUnsaved.kept e u) = IsUnsaved.kept (same_word e) (unsaved_too u)

  loses_too : {passed : List Point} → Loses less procedure l passed → Loses more other l passed
  loses_too (Loses.in_call {a = a} c) = Loses.in_call (same_call a c)
  loses_too (Loses.made e) = Loses.made (same_effect e)
  loses_too (Loses.copied e) = Loses.copied (same_effect e)
  loses_too (Loses.popped_open {word = word} e o) = Loses.popped_open (same_effect e) (is_private word ∙ o)
  loses_too (Loses.popped_unsaved e u) = Loses.popped_unsaved (same_effect e) (unsaved_too u)
  loses_too (Loses.left e lost) = Loses.left (same_effect e) (loses_too lost)

module _ {Point Location Word : Type 0} (p more : Procedures Point Location Word) (has : HasMoreTrails p more) where
  loss_moves : (changed wider : ChangeFamily Location) → IsWithin changed wider → IsWithin (IsLost p changed) (IsLost more wider)
  loss_moves changed wider within i l lost =
      let trail = has.trails i lost.passed lost.at lost.trail lost.returns in
      record {
        passes = has.passes l lost.passes;
        passed = lost.passed;
        at = lost.at;
        trail = trail.0;
        returns = trail.1;
        loses = loses_too changed wider within (p.procedure i) (more.procedure i) (has.action i) (has.is_private i) l lost.loses;
      }

itself : {Point Location Word : Type 0} (p : Procedures Point Location Word) → HasMoreTrails p p
itself p = record {
  passes = λ l q. q;
  action = λ i a. refl;
  is_private = λ i word. refl;
  trails = λ i passed at trail returns. (trail, returns);
}

-- The least family: by induction on the depth of calls.

module _ {Point Location Word : Type 0} (p : Procedures Point Location Word) where
  pub loss-monotone : (less more : ChangeFamily Location) → IsWithin less more → IsWithin (IsLost p less) (IsLost p more)
  loss-monotone = loss_moves p p (itself p)

  pub changes-least : (changed : ChangeFamily Location) → IsClosedUnderLoss p changed → IsWithin (Changes p) changed
  changes-least changed closed i l c = within c.0 i l c.1
    where
      within : (depth : ℕ) → IsWithin (ChangesWithin p depth) changed
      within zero i l c = absurd c
      within (suc depth) i l lost = closed i l (loss-monotone (ChangesWithin p depth) changed (within depth) i l lost)

-- A loss has at most one call behind it, so one depth is enough for it.

call_depth : {Point Location Word : Type 0} (p : Procedures Point Location Word) (callee : Option ℕ) (l : Location) → CallChanges (Changes p) callee l → (depth : ℕ) × CallChanges (ChangesWithin p depth) callee l
call_depth p (Some j) l c = c
call_depth p None l c = absurd c

module _ {Point Location Word : Type 0} (p : Procedures Point Location Word) (procedure : Procedure Point Location Word) (l : Location) where
  written_depth : {passed : List Point} → IsWritten (Changes p) procedure l passed → (depth : ℕ) × IsWritten (ChangesWithin p depth) procedure l passed
  written_depth (IsWritten.by_point e) = (0, IsWritten.by_point e)
  written_depth (IsWritten.by_call {a = a} c) = let d = call_depth p (procedure.action a).callee l c in (d.0, IsWritten.by_call d.1)
  written_depth (IsWritten.before w) = let d = written_depth w in (d.0, IsWritten.before d.1)

  unsaved_depth : {word : Word} {passed : List Point} → IsUnsaved (Changes p) procedure l word passed → (depth : ℕ) × IsUnsaved (ChangesWithin p depth) procedure l word passed
  unsaved_depth IsUnsaved.unpushed = (0, IsUnsaved.unpushed)
  unsaved_depth (IsUnsaved.overwritten e) = (0, IsUnsaved.overwritten e)
  unsaved_depth (IsUnsaved.by_other e n) = (0, IsUnsaved.by_other e n)
  unsaved_depth (IsUnsaved.too_late e w) = let d = written_depth w in (d.0, IsUnsaved.too_late e d.1)
  unsaved_depth (IsUnsaved.kept e u) = let d = unsaved_depth u in (d.0, IsUnsaved.kept e d.1)

  loses_depth : {passed : List Point} → Loses (Changes p) procedure l passed → (depth : ℕ) × Loses (ChangesWithin p depth) procedure l passed
  loses_depth (Loses.in_call {a = a} c) = let d = call_depth p (procedure.action a).callee l c in (d.0, Loses.in_call d.1)
  loses_depth (Loses.made e) = (0, Loses.made e)
  loses_depth (Loses.copied e) = (0, Loses.copied e)
  loses_depth (Loses.popped_open e o) = (0, Loses.popped_open e o)
  loses_depth (Loses.popped_unsaved e u) = let d = unsaved_depth u in (d.0, Loses.popped_unsaved e d.1)
  loses_depth (Loses.left e lost) = let d = loses_depth lost in (d.0, Loses.left e d.1)

pub changes-closed : {Point Location Word : Type 0} (p : Procedures Point Location Word) → IsClosedUnderLoss p (Changes p)
changes-closed p i l lost =
    let d = loses_depth p (p.procedure i) l lost.loses in
    (suc d.0, record { passes = lost.passes; passed = lost.passed; at = lost.at; trail = lost.trail; returns = lost.returns; loses = d.1 })

pub changes-monotone : {Point Location Word : Type 0} (p more : Procedures Point Location Word) → HasMoreTrails p more → IsWithin (Changes p) (Changes more)
changes-monotone p more has = changes-least p (Changes more) (λ i l lost. changes-closed more i l (loss_moves p more has (Changes more) (Changes more) (λ i l c. c) i l lost))
