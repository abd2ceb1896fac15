-- How a graph is collapsed. No public contract rests on it.
use Rattle.std.specs.Prelude.{◌≡◌, ℕ, ◌+◌, ◌==◌, false, if◌then◌else◌, List, [], ◌∷◌, length, get_or, slice_set}
use Rattle.std.specs.Prelude.{replicate}
use Rattle.dcc_flow.specs.Edges.{leads, AreWithin}
use Rattle.dcc_interval.specs.Intervals.{Interval}
use Rattle.dcc_interval.specs.Derived.{collapsed}
use Rattle.dcc_interval.specs.Noted.{Noted, with_all_noted, followers}

-- these nodes are given the place
abbrev pub all_placed : List ℕ → List ℕ → ℕ → List ℕ
all_placed places [] place = places
all_placed places (n ∷ ns) place = all_placed (slice_set places n place) ns place

-- the nodes of each interval are given its place; these are the intervals from the place on
abbrev pub placed_from : List ℕ → List Interval → ℕ → List ℕ
placed_from places [] place = places
placed_from places (i ∷ level) place = placed_from (all_placed places i.members place) level (place + 1)

-- the place of each node, so many in all
abbrev pub places_of : ℕ → List Interval → List ℕ
places_of count level = placed_from (replicate count 0) level 0

-- the places of these nodes other than the one
abbrev pub others : List ℕ → ℕ → List ℕ → List ℕ
others places place [] = []
others places place (n ∷ ns) =
    if get_or places n 0 == place then others places place ns else get_or places n 0 ∷ others places place ns

-- of so many nothing is noted
abbrev pub nothing_noted : ℕ → Noted
nothing_noted count = record { marks = replicate count false; list = [] }

-- each once, the places of the intervals that follow the one of these nodes
abbrev pub row_of : List (List ℕ) → List ℕ → ℕ → ℕ → List ℕ → List ℕ
row_of next places count place members =
    (with_all_noted (nothing_noted count) (others places place (followers next members))).list

-- a list for each interval, whose numbers are the places of those that follow it
pub record AreCollapsed (next : List (List ℕ)) (level : List Interval) (graph : List (List ℕ)) : Type 0 where
  pub count : length graph ≡ length level
  pub within : AreWithin graph
  pub edges : (a b : ℕ) → leads graph a b ≡ collapsed (leads next) level a b
