-- Sets of locations, and how code keeps one.
use Rattle.std.specs.Prelude.{◌≡◌, ℕ, ◌+◌, ◌*◌, Bool, true, false, ◌&&◌, ◌||◌, not, if◌then◌else◌, List, [], ◌∷◌, map}
use Rattle.std.specs.Prelude.{get_or, Contains}
use Rattle.dcc_ir.specs.declared.syntax.Loc.{Loc}
use Rattle.dcc_ir.specs.declared.syntax.Loc.TheVariants.{Half, Flag, Cell, Temp}
use Rattle.dcc_ir.specs.Location.{register_number, half_number, flag_number, same_location}
use Rattle.dcc_ir.specs.Live.{is_among}
use Rattle.dcc_flow.specs.Words.{bit_in}

-- no location
abbrev pub empty : Loc → Bool
empty location = false

abbrev pub with_one : (Loc → Bool) → Loc → Loc → Bool
with_one has x location = same_location location x || has location

abbrev pub without_one : (Loc → Bool) → Loc → Loc → Bool
without_one has x location = not (same_location location x) && has location

abbrev pub with_all : (Loc → Bool) → List Loc → Loc → Bool
with_all has xs location = is_among xs location || has location

abbrev pub without_all : (Loc → Bool) → List Loc → Loc → Bool
without_all has xs location = not (is_among xs location) && has location

-- the locations at whose places the list holds true
abbrev pub selected : List Loc → List Bool → List Loc
selected (x ∷ xs) (b ∷ bs) = if b then x ∷ selected xs bs else selected xs bs
selected xs bs = []

-- How code keeps a set: a truth value for each number of a location.

-- a number of its own for each location
abbrev pub location_number : Loc → ℕ
location_number (Half r h) = 2 * register_number r + half_number h
location_number (Flag f) = 16 + flag_number f
location_number (Cell n h) = 20 + 3 * n + half_number h
location_number (Temp n) = 22 + 3 * n

-- the locations in the set
abbrev pub members : List Bool → Loc → Bool
members has location = get_or has (location_number location) false

-- the numbers that hold true are of locations that were noted
abbrev pub AreNoted : List Bool → List Loc → Type 0
AreNoted has noted = (n : ℕ) → get_or has n false ≡ true → Contains (map location_number noted) n

-- the bits that are set are at the numbers of the locations in the list
abbrev pub AreThoseOf : List Loc → List ℕ → Type 0
AreThoseOf list words = (location : Loc) → bit_in words (location_number location) ≡ is_among list location
