-- The derived sequence of a graph (F. E. Allen, J. Cocke, A program data flow analysis procedure, 1976). Each level has
-- the intervals of a graph. The graph of the next level has these intervals for nodes, by their places in the level.
use Rattle.std.specs.Prelude.{◌≡◌, ℕ, ◌==◌, Bool, true, false, ◌&&◌, not, List, [], ◌∷◌, ◌++◌, map, filter}
use Rattle.std.specs.Prelude.{length, get_or}
use Rattle.std.specs.List.{list_any, list_all}
use Rattle.std.specs.Global.{Vec}
use Rattle.dcc_interval.specs.declared.interval.Interval.{Interval as IntervalOf}
use Rattle.dcc_interval.specs.Intervals.{Interval, headers_of, AreIntervals, intervals_in}

-- the nodes of the interval at the place
abbrev pub members_at : List Interval → ℕ → List ℕ
members_at level place = get_or (map (λ i. i.members) level) place []

-- an edge leads from one of these to one of those
abbrev pub leads_between : (ℕ → ℕ → Bool) → List ℕ → List ℕ → Bool
leads_between edge ms ns = list_any (λ m. list_any (edge m) ns) ms

-- the edges of the next level: those between different intervals
abbrev pub collapsed : (ℕ → ℕ → Bool) → List Interval → ℕ → ℕ → Bool
collapsed edge level a b = not (a == b) && leads_between edge (members_at level a) (members_at level b)

-- the list has one node alone
abbrev pub is_single : List ℕ → Bool
is_single (n ∷ []) = true
is_single ns = false

-- collapsing changes neither nodes nor edges: each interval is one node, without an edge to itself
abbrev pub is_still : (ℕ → ℕ → Bool) → List Interval → Bool
is_still edge level = list_all (λ i. is_single i.members && not (edge i.header i.header)) level

-- the levels of the sequence, which ends with the first that collapsing does not change
pub data IsDerived : (ℕ → ℕ → Bool) → ℕ → List (List Interval) → Type 0 where
  ends :
      {edge : ℕ → ℕ → Bool} {entry : ℕ} {level : List Interval}
      → AreIntervals edge entry level
      → is_still edge level ≡ true
      → IsDerived edge entry (level ∷ [])
  goes_on :
      {edge : ℕ → ℕ → Bool} {entry : ℕ} {level : List Interval} {levels : List (List Interval)}
      → AreIntervals edge entry level
      → is_still edge level ≡ false
      → IsDerived (collapsed edge level) 0 levels
      → IsDerived edge entry (level ∷ levels)

-- the headers to which an edge leads back from inside their interval
abbrev pub back_headers : (ℕ → ℕ → Bool) → List Interval → List ℕ
back_headers edge level = map (λ i. i.header) (filter (λ i. list_any (λ m. edge m i.header) i.members) level)

-- the node that a place of the next level stands for: the header of the interval there
abbrev pub header_at : List Interval → ℕ → ℕ
header_at level place = get_or (headers_of level) place 0

-- The loop headers: the nodes that at some level are, or that there is a place for that is, such a header. A node may
-- stand in the list more than once.
abbrev pub loop_headers : (ℕ → ℕ → Bool) → List (List Interval) → List ℕ
loop_headers edge [] = []
loop_headers edge (level ∷ levels) =
    back_headers edge level ++ map (header_at level) (loop_headers (collapsed edge level) levels)

-- a derived sequence ends in one node
abbrev pub ends_in_one : List (List Interval) → Bool
ends_in_one [] = false
ends_in_one (level ∷ []) = length level == 1
ends_in_one (level ∷ levels) = ends_in_one levels

-- what the declared values stand for
abbrev pub levels_in : List (Vec IntervalOf) → List (List Interval)
levels_in levels = map (λ level. intervals_in level.items) levels
