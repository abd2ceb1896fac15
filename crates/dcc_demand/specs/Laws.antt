-- Laws of what procedures change, hold, want and give back.
use Rattle.std.specs.Prelude.{◌≡◌, ℕ, Bool, true, false, ◌⊎◌, ◌↔◌, List, Contains, Some}
use Rattle.dcc_demand.specs.Procedures.{Procedures, ChangeFamily}
use Rattle.dcc_demand.specs.Trail.{IsTrail}
use Rattle.dcc_demand.specs.Changes.{IsWritten, Loses, IsLost, Changes, IsClosedUnderLoss, IsPreserved}
use Rattle.dcc_demand.specs.Saves.{Saves}
use Rattle.dcc_demand.specs.Holds.{Holds}
use Rattle.dcc_demand.specs.Wanted.{Wanted, WantedFamily, IsParam, IsResult, IsClosedUnderDemand}
use Rattle.dcc_demand.specs.Spread.{MayChange}
use Rattle.dcc_demand.specs.Tables.{Tables, AreClosed, TellsApart, TellsChanges, changed_in, wanted_in}

-- of two locations it can be told whether they are one
abbrev pub AreDecided : Type 0 → Type 0
AreDecided Location = (x y : Location) → (x ≡ y) ⊎ ¬ (x ≡ y)

-- of each location it can be told whether the procedure changes it
abbrev pub IsDecided : {Location : Type 0} → ChangeFamily Location → Type 0
IsDecided {Location} changed = (i : ℕ) (location : Location) → changed i location ⊎ ¬ changed i location

-- the one family has all that the other one has
abbrev pub IsWithin : {Location : Type 0} → ChangeFamily Location → ChangeFamily Location → Type 0
IsWithin {Location} less more = (i : ℕ) (location : Location) → less i location → more i location

module _ {Point Location Word : Type 0} (p : Procedures Point Location Word) where
  -- What is changed.

  -- what trails lose where calls change what procedures change, procedures change
  abbrev pub ChangesAreClosed : Type 0
  ChangesAreClosed = IsClosedUnderLoss p (Changes p)

  -- a family that has what trails lose where calls change what is in it has all that procedures change
  abbrev pub HasAllChanges : ChangeFamily Location → Type 0
  HasAllChanges changed = IsClosedUnderLoss p changed → IsWithin (Changes p) changed

  -- where calls change more, trails lose no less
  abbrev pub LossIsMonotone : ChangeFamily Location → ChangeFamily Location → Type 0
  LossIsMonotone less more = IsWithin less more → IsWithin (IsLost p less) (IsLost p more)

  -- other procedures, whose points do the same, have the trails that the given ones have, and perhaps more
  pub record HasMoreTrails (more : Procedures Point Location Word) : Type 0 where
    pub passes : (location : Location) → p.passes location ≡ true → more.passes location ≡ true
    pub action : (i : ℕ) (a : Point) → (more.procedure i).action a ≡ (p.procedure i).action a
    pub is_private : (i : ℕ) (word : Word) → (more.procedure i).is_private word ≡ (p.procedure i).is_private word
    pub trails : (i : ℕ) (passed : List Point) (at : Point) → IsTrail (p.procedure i) passed at
        → (p.procedure i).returns at ≡ true
        → IsTrail (more.procedure i) passed at × ((more.procedure i).returns at ≡ true)

  -- procedures with more trails change no less
  abbrev pub ChangesAreMonotone : Procedures Point Location Word → Type 0
  ChangesAreMonotone more = HasMoreTrails more → IsWithin (Changes p) (Changes more)

  -- Losing is writing and not saving: what is lost is written and isn't saved, and what is written is saved or lost.
  pub record LosingIsNotSaving (changed : ChangeFamily Location) : Type 0 where
    pub written : (i : ℕ) (location : Location) (passed : List Point) → Loses changed (p.procedure i) location passed
        → IsWritten changed (p.procedure i) location passed
    pub unsaved : (i : ℕ) (location : Location) (passed : List Point) → Loses changed (p.procedure i) location passed
        → ¬ Saves changed (p.procedure i) location passed
    pub either : AreDecided Location → IsDecided changed → (i : ℕ) (location : Location) (passed : List Point)
        → IsWritten changed (p.procedure i) location passed
        → Saves changed (p.procedure i) location passed ⊎ Loses changed (p.procedure i) location passed

  -- What is held.

  -- a trail that saves a location ends with the location holding what it held at the begin
  abbrev pub SavedIsHeld : ChangeFamily Location → Type 0
  SavedIsHeld changed = (i : ℕ) (location : Location) (passed : List Point)
      → Saves changed (p.procedure i) location passed → Holds changed (p.procedure i) location passed location

  -- At the end of each trail to a return a location that the procedure leaves as it was holds what it held at the
  -- begin. Where a location that passes doesn't hold that, the procedure changes it, if it can be told at all what is
  -- changed.
  pub record PreservedIsHeld : Type 0 where
    pub held : AreDecided Location → (i : ℕ) (location : Location) (passed : List Point) (at : Point)
        → IsTrail (p.procedure i) passed at → (p.procedure i).returns at ≡ true → IsPreserved p i location
        → Holds (Changes p) (p.procedure i) location passed location
    pub changed : AreDecided Location → IsDecided (Changes p) → (i : ℕ) (location : Location) (passed : List Point)
        (at : Point) → IsTrail (p.procedure i) passed at → (p.procedure i).returns at ≡ true
        → p.passes location ≡ true → ¬ Holds (Changes p) (p.procedure i) location passed location
        → Changes p i location

  -- What is wanted.

  -- what is wanted is closed under demand
  abbrev pub WantedIsClosed : Type 0
  WantedIsClosed = IsClosedUnderDemand p (Changes p) (Wanted p)

  -- a family that is closed under demand has all that is wanted
  abbrev pub HasAllWanted : WantedFamily Point Location → Type 0
  HasAllWanted wanted = IsClosedUnderDemand p (Changes p) wanted → (i : ℕ) (a : Point) (location : Location)
      → Wanted p i a location → wanted i a location

  -- What is wanted after a call is given back by the called procedure, if that changes it. If not, and if the call
  -- itself doesn't surely write it, it is wanted before the call; and what the called procedure takes is wanted before
  -- the call too.
  pub record CallsPassWanted : Type 0 where
    pub gives : (i callee : ℕ) (call after : Point) (location : Location)
        → ((p.procedure i).action call).callee ≡ Some callee → Contains ((p.procedure i).next call) after
        → Wanted p i after location → Changes p callee location → IsResult p callee location
    pub keeps : (i callee : ℕ) (call after : Point) (location : Location)
        → ((p.procedure i).action call).callee ≡ Some callee → Contains ((p.procedure i).next call) after
        → ((p.procedure i).action call).surely location ≡ false → Wanted p i after location
        → ¬ Changes p callee location → Wanted p i call location
    pub takes : (i callee : ℕ) (call : Point) (location : Location)
        → ((p.procedure i).action call).callee ≡ Some callee → IsParam p callee location → Wanted p i call location

  -- what a procedure gives back is wanted at each of its returns
  abbrev pub ResultsAreWanted : Type 0
  ResultsAreWanted = (i : ℕ) (a : Point) (location : Location) → (p.procedure i).returns a ≡ true
      → IsResult p i location → Wanted p i a location

  -- From point to point.

  -- what spreads to a return is what is changed
  abbrev pub SpreadIsChange : Type 0
  SpreadIsChange = (i : ℕ) (location : Location) → MayChange p i location ↔ Changes p i location

  -- closed tables have all that is changed
  abbrev pub TablesHaveAllChanges : Type 0
  TablesHaveAllChanges = (same : Location → Location → Bool) (t : Tables Point Location Word) → TellsApart same
      → AreClosed p same t → IsWithin (Changes p) (changed_in t.changed)

  -- a closed table has all that is wanted, by one that tells just what is changed
  abbrev pub TablesHaveAllWanted : Type 0
  TablesHaveAllWanted = (changed : ℕ → Location → Bool) (wanted : ℕ → Point → Location → Bool)
      → TellsChanges p changed → IsClosedUnderDemand p (changed_in changed) (wanted_in wanted)
      → (i : ℕ) (a : Point) (location : Location) → Wanted p i a location → wanted i a location ≡ true
