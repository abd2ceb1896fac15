-- Tables of truth values that are closed from point to point: they have all that is changed and all that is wanted.
use Rattle.std.specs.Prelude.{◌≡◌, ℕ, Bool, true, ◌||◌, not, ◌↔◌, if◌then◌else◌, Some}
use Rattle.dcc_demand.specs.Procedures.{Effect, Leaves, Copies, Pops, Makes, WordEffect, LeavesWord, Pushes, Overwrites}
use Rattle.dcc_demand.specs.Procedures.{Procedures, ChangeFamily}
use Rattle.dcc_demand.specs.Changes.{Changes}
use Rattle.dcc_demand.specs.Wanted.{WantedFamily}
use Rattle.dcc_demand.specs.Spread.{IsReached, IsEdge}

-- What a procedure may change; and what some trail to a point may have written, may not have saved in a word, and may
-- have lost.
pub record Tables (Point Location Word : Type 0) : Type 0 where
  pub changed : ℕ → Location → Bool
  pub written : ℕ → Point → Location → Bool
  pub unsaved : ℕ → Point → Location → Word → Bool
  pub lost : ℕ → Point → Location → Bool

-- What the tables have after a point, by the point's effect and by what they have before it.

abbrev pub written_after : {Location Word : Type 0} → Effect Location Word → Bool → Bool
written_after Leaves written = written
written_after effect written = true

-- `same` tells whether two locations are one
module _ {Location : Type 0} (same : Location → Location → Bool) (location : Location) where
  abbrev pub unsaved_after : WordEffect Location → Bool → Bool → Bool
  unsaved_after LeavesWord written unsaved = unsaved
  unsaved_after (Pushes other) written unsaved = if same other location then written else true
  unsaved_after Overwrites written unsaved = true

module _ {Location Word : Type 0} (is_private : Word → Bool) where
  abbrev pub lost_after : Effect Location Word → (Word → Bool) → Bool → Bool
  lost_after Leaves unsaved lost = lost
  lost_after (Copies other) unsaved lost = true
  lost_after (Pops word) unsaved lost = not (is_private word) || unsaved word
  lost_after Makes unsaved lost = true

-- the test takes no two locations for one
abbrev pub TellsApart : {Location : Type 0} → (Location → Location → Bool) → Type 0
TellsApart {Location} same = (x y : Location) → same x y ≡ true → x ≡ y

-- the family of what is true in a table of what is changed
abbrev pub changed_in : {Location : Type 0} → (ℕ → Location → Bool) → ChangeFamily Location
changed_in changed i location = changed i location ≡ true

-- the family of what is true in a table of what is wanted
abbrev pub wanted_in : {Point Location : Type 0} → (ℕ → Point → Location → Bool) → WantedFamily Point Location
wanted_in wanted i a location = wanted i a location ≡ true

module _ {Point Location Word : Type 0} (p : Procedures Point Location Word) where
  -- The tables are closed: what they have after a point that is reached they have at the end of each edge from there,
  -- and what the point's call changes is written and lost. At an entry no word is saved; what is lost at a return and
  -- passes is changed.
  pub record AreClosed (same : Location → Location → Bool) (t : Tables Point Location Word) : Type 0 where
    pub begins : (i : ℕ) (location : Location) (word : Word)
        → t.unsaved i (p.procedure i).entry location word ≡ true
    pub called : (i callee : ℕ) (a b : Point) (location : Location) → IsEdge (p.procedure i) a b
        → ((p.procedure i).action a).callee ≡ Some callee → t.changed callee location ≡ true
        → (t.written i b location ≡ true) × (t.lost i b location ≡ true)
    pub written : (i : ℕ) (a b : Point) (location : Location) → IsEdge (p.procedure i) a b
        → written_after (((p.procedure i).action a).effect location) (t.written i a location) ≡ true
        → t.written i b location ≡ true
    pub unsaved : (i : ℕ) (a b : Point) (location : Location) (word : Word) → IsEdge (p.procedure i) a b
        → unsaved_after same location (((p.procedure i).action a).word_effect word) (t.written i a location)
        (t.unsaved i a location word) ≡ true
        → t.unsaved i b location word ≡ true
    pub lost : (i : ℕ) (a b : Point) (location : Location) → IsEdge (p.procedure i) a b
        → lost_after (p.procedure i).is_private (((p.procedure i).action a).effect location) (t.unsaved i a location)
        (t.lost i a location) ≡ true
        → t.lost i b location ≡ true
    pub changed : (i : ℕ) (a : Point) (location : Location) → IsReached (p.procedure i) a
        → p.passes location ≡ true → (p.procedure i).returns a ≡ true → t.lost i a location ≡ true
        → t.changed i location ≡ true

  -- the table tells just what is changed
  abbrev pub TellsChanges : (ℕ → Location → Bool) → Type 0
  TellsChanges changed = (i : ℕ) (location : Location) → (changed i location ≡ true) ↔ Changes p i location
