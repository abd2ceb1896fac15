-- Lists of locations that tell at which place a location is.
use Rattle.std.specs.Prelude.{◌≡◌, ℕ, ◌<◌, ◌↔◌, if◌then◌else◌, List, [], ◌∷◌, ◌++◌, length, get_or, slice_get}
use Rattle.std.specs.Prelude.{Some}
use Rattle.dcc_ir.specs.declared.syntax.Loc.{Loc}
use Rattle.dcc_ir.specs.Live.{is_among}
use Rattle.dcc_flow.specs.Marks.{location_number}

-- the list has the location at that place, and at no other
abbrev pub IsPlace : List Loc → Loc → ℕ → Type 0
IsPlace list location place = (k : ℕ) → (slice_get list k ≡ Some location) ↔ (k ≡ place)

-- the list with the location at its end, or as it was where it has it
abbrev pub with_place : List Loc → Loc → List Loc
with_place list location = if is_among list location then list else list ++ location ∷ []

-- the list with each of the locations put in so
abbrev pub with_places : List Loc → List Loc → List Loc
with_places list [] = list
with_places list (location ∷ locations) = with_places (with_place list location) locations

-- How code finds a place: the place of each location of the list stands at the number of that location.
abbrev pub AreAt : List Loc → List ℕ → Type 0
AreAt list at = (k : ℕ) (location : Loc) → slice_get list k ≡ Some location
    → (location_number location < length at) × (get_or at (location_number location) 0 ≡ k)
