-- Which location holds, after the points of a trail, what which location held at its begin.
use Rattle.std.specs.Prelude.{◌≡◌, true, List, [], ◌∷◌}
use Rattle.dcc_demand.specs.Procedures.{Leaves, Copies, Pops, LeavesWord, Pushes, Procedure, ChangeFamily, CallChanges}

-- At the begin each location holds what it held. A copy passes on what is held, and so do a PUSH into a private word
-- and a POP from it; each other writer, and a call that changes the location, leave it holding nothing.
module _ {Point Location Word : Type 0} (changed : ChangeFamily Location) (procedure : Procedure Point Location Word)
    (first : Location) where
  mutual
    -- the location holds what `first` held
    pub data Holds : List Point → Location → Type 0 where
      begun : Holds [] first
      left : {a : Point} {passed : List Point} {location : Location} → (procedure.action a).effect location ≡ Leaves
          → ¬ CallChanges changed (procedure.action a).callee location → Holds passed location
          → Holds (a ∷ passed) location
      copied : {a : Point} {passed : List Point} {location other : Location}
          → (procedure.action a).effect location ≡ Copies other
          → ¬ CallChanges changed (procedure.action a).callee location → Holds passed other
          → Holds (a ∷ passed) location
      popped : {a : Point} {passed : List Point} {location : Location} {word : Word}
          → (procedure.action a).effect location ≡ Pops word
          → ¬ CallChanges changed (procedure.action a).callee location → procedure.is_private word ≡ true
          → WordHolds passed word → Holds (a ∷ passed) location

    -- the word holds what `first` held
    pub data WordHolds : List Point → Word → Type 0 where
      pushed : {a : Point} {passed : List Point} {location : Location} {word : Word}
          → (procedure.action a).word_effect word ≡ Pushes location → Holds passed location
          → WordHolds (a ∷ passed) word
      kept : {a : Point} {passed : List Point} {word : Word} → (procedure.action a).word_effect word ≡ LeavesWord
          → WordHolds passed word → WordHolds (a ∷ passed) word
