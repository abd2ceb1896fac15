-- Which locations a procedure changes: those that some trail to a return writes and doesn't save. A trail saves what
-- it writes where its last writer pops the location from a private word, and the last writer of that word has pushed
-- this location before the trail's first writer of it. A call writes what its procedure changes, and saves nothing.
use Rattle.std.specs.Prelude.{◌≡◌, ℕ, zero, suc, true, false, List, [], ◌∷◌}
use Rattle.dcc_demand.specs.Procedures.{Leaves, Copies, Pops, Makes, LeavesWord, Pushes, Overwrites, Procedure}
use Rattle.dcc_demand.specs.Procedures.{Procedures, is_left, ChangeFamily, CallChanges}
use Rattle.dcc_demand.specs.Trail.{IsTrail}

-- What the passed points of a trail do to a location, where calls change what is in the family.
module _ {Point Location Word : Type 0} (changed : ChangeFamily Location) (procedure : Procedure Point Location Word)
    (location : Location) where
  -- one of the points writes the location
  pub data IsWritten : List Point → Type 0 where
    by_point : {a : Point} {passed : List Point} → is_left ((procedure.action a).effect location) ≡ false
        → IsWritten (a ∷ passed)
    by_call : {a : Point} {passed : List Point} → CallChanges changed (procedure.action a).callee location
        → IsWritten (a ∷ passed)
    before : {a : Point} {passed : List Point} → IsWritten passed → IsWritten (a ∷ passed)

  -- The word doesn't hold what the location held at the begin, as its last writer didn't push the location from before
  -- its first writer: nothing has written the word, or the last to do so wrote it otherwise, or pushed another
  -- location, or pushed this one when it was written already.
  pub data IsUnsaved (word : Word) : List Point → Type 0 where
    unpushed : IsUnsaved word []
    overwritten : {a : Point} {passed : List Point} → (procedure.action a).word_effect word ≡ Overwrites
        → IsUnsaved word (a ∷ passed)
    by_other : {a : Point} {passed : List Point} {other : Location}
        → (procedure.action a).word_effect word ≡ Pushes other → ¬ (other ≡ location) → IsUnsaved word (a ∷ passed)
    too_late : {a : Point} {passed : List Point} → (procedure.action a).word_effect word ≡ Pushes location
        → IsWritten passed → IsUnsaved word (a ∷ passed)
    kept : {a : Point} {passed : List Point} → (procedure.action a).word_effect word ≡ LeavesWord
        → IsUnsaved word passed → IsUnsaved word (a ∷ passed)

  -- the points write the location and don't save it: its last writer is no POP from a private word that holds it saved
  pub data Loses : List Point → Type 0 where
    in_call : {a : Point} {passed : List Point} → CallChanges changed (procedure.action a).callee location
        → Loses (a ∷ passed)
    made : {a : Point} {passed : List Point} → (procedure.action a).effect location ≡ Makes → Loses (a ∷ passed)
    copied : {a : Point} {passed : List Point} {other : Location} → (procedure.action a).effect location ≡ Copies other
        → Loses (a ∷ passed)
    popped_open : {a : Point} {passed : List Point} {word : Word} → (procedure.action a).effect location ≡ Pops word
        → procedure.is_private word ≡ false → Loses (a ∷ passed)
    popped_unsaved : {a : Point} {passed : List Point} {word : Word} → (procedure.action a).effect location ≡ Pops word
        → IsUnsaved word passed → Loses (a ∷ passed)
    left : {a : Point} {passed : List Point} → (procedure.action a).effect location ≡ Leaves → Loses passed
        → Loses (a ∷ passed)

module _ {Point Location Word : Type 0} (p : Procedures Point Location Word) where
  -- where calls change what is in the family, some trail to a return loses the location, which passes between
  -- procedures
  pub record IsLost (changed : ChangeFamily Location) (i : ℕ) (location : Location) : Type 0 where
    pub passes : p.passes location ≡ true
    pub passed : List Point
    pub at : Point
    pub trail : IsTrail (p.procedure i) passed at
    pub returns : (p.procedure i).returns at ≡ true
    pub loses : Loses changed (p.procedure i) location passed

  -- what trails lose by calls that stand in one another to less than the given depth
  abbrev pub ChangesWithin : ℕ → ChangeFamily Location
  ChangesWithin zero = λ i location. ⊥
  ChangesWithin (suc depth) = λ i location. IsLost (ChangesWithin depth) i location

  -- The procedure with this number changes the location: what trails lose, by calls to some depth. This is the least
  -- family that has what trails lose where calls change what is in it.
  abbrev pub Changes : ChangeFamily Location
  Changes i location = (depth : ℕ) × ChangesWithin depth i location

  -- the family has what trails lose where calls change what is in it
  abbrev pub IsClosedUnderLoss : ChangeFamily Location → Type 0
  IsClosedUnderLoss changed = (i : ℕ) (location : Location) → IsLost changed i location → changed i location

  -- the procedure leaves the location as it was
  abbrev pub IsPreserved : ℕ → Location → Type 0
  IsPreserved i location = (p.passes location ≡ true) × ¬ Changes i location
