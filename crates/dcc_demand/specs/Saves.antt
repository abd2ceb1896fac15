-- When the points of a trail save a location that they write: where they don't lose it.
use Rattle.std.specs.Prelude.{◌≡◌, true, List, ◌∷◌}
use Rattle.dcc_demand.specs.Procedures.{Leaves, Pops, LeavesWord, Pushes, Procedure, ChangeFamily, CallChanges}
use Rattle.dcc_demand.specs.Changes.{IsWritten}

module _ {Point Location Word : Type 0} (changed : ChangeFamily Location) (procedure : Procedure Point Location Word)
    (location : Location) where
  -- the word holds what the location held at the begin: its last writer has pushed the location, which no point before
  -- had written
  pub data IsSaved (word : Word) : List Point → Type 0 where
    pushed : {a : Point} {passed : List Point} → (procedure.action a).word_effect word ≡ Pushes location
        → ¬ IsWritten changed procedure location passed → IsSaved word (a ∷ passed)
    kept : {a : Point} {passed : List Point} → (procedure.action a).word_effect word ≡ LeavesWord
        → IsSaved word passed → IsSaved word (a ∷ passed)

  -- the last writer of the location pops it from a private word that holds it saved
  pub data Saves : List Point → Type 0 where
    popped : {a : Point} {passed : List Point} {word : Word} → (procedure.action a).effect location ≡ Pops word
        → ¬ CallChanges changed (procedure.action a).callee location → procedure.is_private word ≡ true
        → IsSaved word passed → Saves (a ∷ passed)
    left : {a : Point} {passed : List Point} → (procedure.action a).effect location ≡ Leaves
        → ¬ CallChanges changed (procedure.action a).callee location → Saves passed → Saves (a ∷ passed)
