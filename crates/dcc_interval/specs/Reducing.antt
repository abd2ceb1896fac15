-- How regions are joined. No public contract rests on it.
use Rattle.std.specs.Prelude.{◌≡◌, ℕ, ◌<◌, ◌==◌, Bool, true, false, ◌&&◌, ◌||◌, not, ◌↔◌, ◌⊎◌, if◌then◌else◌, List}
use Rattle.std.specs.Prelude.{[], ◌∷◌, ◌++◌, length, get_or, slice_set}
use Rattle.std.specs.List.{list_any, list_all}
use Rattle.dcc_flow.specs.Edges.{rows, is_in}
use Rattle.dcc_interval.specs.declared.regions.Regions.{Regions as RegionsOf}
use Rattle.dcc_interval.specs.declared.reduce.Reducing.{Reducing as ReducingOf}
use Rattle.dcc_interval.specs.Graphs.{IsReached}
use Rattle.dcc_interval.specs.Reduction.{InRegion, IsLedBackTo}
use Rattle.dcc_interval.specs.Collapsing.{all_placed}

-- the number of each node's region; the node of the region of each number; and the nodes of each number
pub record Regions : Type 0 where
  pub numbers : List ℕ
  pub heads : List ℕ
  pub members : List (List ℕ)

abbrev pub regions_of : RegionsOf → Regions
regions_of r = record { numbers = r.numbers.items; heads = r.heads.items; members = rows r.members.items }

-- the region that the node is in
abbrev pub region_at : Regions → ℕ → ℕ
region_at r n = get_or r.heads (get_or r.numbers n 0) 0

-- the nodes with the one number get the other
abbrev pub renumbered : Regions → ℕ → ℕ → Regions
renumbered r from to = record {
  numbers = all_placed r.numbers (get_or r.members from []) to;
  heads = r.heads;
  members = slice_set (slice_set r.members from []) to
      (get_or (slice_set r.members from []) to [] ++ get_or r.members from []);
}

-- each of so many nodes is a region, with a number of its own
pub record AreAlone (count : ℕ) (r : Regions) : Type 0 where
  pub numbers : length r.numbers ≡ count
  pub heads : length r.heads ≡ count
  pub members : length r.members ≡ count
  pub number_is : (n : ℕ) → n < count → get_or r.numbers n 0 ≡ n
  pub head_is : (n : ℕ) → n < count → get_or r.heads n 0 ≡ n
  pub member_is : (n : ℕ) → n < count → get_or r.members n [] ≡ n ∷ []

-- the numbers, nodes and members of so many nodes fit together: the node of a region is in it
pub record AreRegions (count : ℕ) (r : Regions) : Type 0 where
  pub numbers : length r.numbers ≡ count
  pub heads : length r.heads ≡ count
  pub members : length r.members ≡ count
  pub below : (n : ℕ) → n < count → get_or r.numbers n 0 < count
  pub heads_below : (k : ℕ) → k < count → get_or r.heads k 0 < count
  pub exact : (k n : ℕ) → k < count
      → (is_in (get_or r.members k []) n ≡ true) ↔ ((n < count) × (get_or r.numbers n 0 ≡ k))
  pub own : (n : ℕ) → n < count → get_or r.numbers (region_at r n) 0 ≡ get_or r.numbers n 0

-- the region of each node, where the one region is joined into the other
abbrev pub joined_at : (ℕ → ℕ) → ℕ → ℕ → ℕ → ℕ
joined_at at region into n = if at n == region then into else at n

-- The region may be joined into the other: an edge to its node comes from there, and each comes from one of the two.
pub record MayJoin (edge : ℕ → ℕ → Bool) (entry : ℕ) (at : ℕ → ℕ) (region into : ℕ) : Type 0 where
  pub apart : ¬ (into ≡ region)
  pub from : ℕ
  pub reached : IsReached edge entry from
  pub leads_there : edge from region ≡ true
  pub comes : at from ≡ into
  pub each : (m : ℕ) → IsReached edge entry m → edge m region ≡ true → (at m ≡ region) ⊎ (at m ≡ into)

-- an edge leads to the node from its own region
abbrev pub HasEdgeBack : (ℕ → ℕ → Bool) → ℕ → (ℕ → ℕ) → ℕ → Type 0
HasEdgeBack edge entry at n = (m : ℕ) × IsReached edge entry m × (edge m n ≡ true) × (at m ≡ n)

-- Regions were joined, that of the entry into no other. Each is part of the region of its node. What is in the region
-- of another node has all edges to it from there, and is marked just where it is a loop header.
pub record AreJoined (edge : ℕ → ℕ → Bool) (entry : ℕ) (at : ℕ → ℕ) (is_marked : ℕ → Bool) : Type 0 where
  pub first : at entry ≡ entry
  pub reached : (n : ℕ) → IsReached edge entry n → IsReached edge entry (at n)
  pub inside : (n : ℕ) → IsReached edge entry n → InRegion edge entry (at n) n
  pub own : (n : ℕ) → IsReached edge entry n → at (at n) ≡ at n
  pub closed : (m n : ℕ) → IsReached edge entry m → IsReached edge entry n → ¬ (at n ≡ n) → edge m n ≡ true
      → at m ≡ at n
  pub marked : (n : ℕ) → IsReached edge entry n → ¬ (at n ≡ n) → (is_marked n ≡ true) ↔ IsLedBackTo edge entry n
  pub only : (n : ℕ) → is_marked n ≡ true → IsReached edge entry n

-- the region of the node may not be joined, and the node is marked just where an edge leads to it from there
pub record IsDone (edge : ℕ → ℕ → Bool) (entry : ℕ) (at : ℕ → ℕ) (is_marked : ℕ → Bool) (n : ℕ) : Type 0 where
  pub stuck : ¬ (n ≡ entry) → (into : ℕ) → ¬ (MayJoin edge entry at n into)
  pub marked : (is_marked n ≡ true) ↔ HasEdgeBack edge entry at n

-- an edge leads from the one node to the other, where these are the nodes before each node
abbrev pub comes_to : List (List ℕ) → ℕ → ℕ → Bool
comes_to sources m n = is_in (get_or sources n []) m

-- the test whether the region may be joined into the other, where edges to its node come from these
abbrev pub may_join : (ℕ → ℕ) → List ℕ → ℕ → ℕ → Bool
may_join at sources region into =
    not (into == region)
    && (list_any (λ m. at m == into) sources && list_all (λ m. at m == region || at m == into) sources)

-- the region of each node, and which nodes are marked, as the code keeps them
abbrev pub at_in : ReducingOf → ℕ → ℕ
at_in r n = region_at (regions_of r.regions) n

abbrev pub marked_in : ReducingOf → ℕ → Bool
marked_in r n = get_or r.headers.items n false

-- what the code knows is right
pub record IsReducing (sources : List (List ℕ)) (entry : ℕ) (r : ReducingOf) : Type 0 where
  pub whole : AreRegions (length sources) (regions_of r.regions)
  pub marks : length r.headers.items ≡ length sources
  pub listed : (m n : ℕ) → comes_to sources m n ≡ true → IsReached (comes_to sources) entry m
  pub joined : AreJoined (comes_to sources) entry (at_in r) (marked_in r)

-- these nodes are reached, and each reached node that is in its own region is among them
pub record AreLeft (sources : List (List ℕ)) (entry : ℕ) (r : ReducingOf) (nodes : List ℕ) : Type 0 where
  pub reached : (n : ℕ) → is_in nodes n ≡ true → IsReached (comes_to sources) entry n
  pub all : (n : ℕ) → IsReached (comes_to sources) entry n → at_in r n ≡ n → is_in nodes n ≡ true

-- no region may be joined any more
abbrev pub AreDone : List (List ℕ) → ℕ → ReducingOf → Type 0
AreDone sources entry r = (n : ℕ) → IsReached (comes_to sources) entry n → at_in r n ≡ n
    → IsDone (comes_to sources) entry (at_in r) (marked_in r) n
