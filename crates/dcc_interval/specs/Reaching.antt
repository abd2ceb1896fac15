-- The nodes that are reached, and the edges turned round. No public contract rests on it.
use Rattle.std.specs.Prelude.{◌≡◌, ℕ, ◌<◌, true, false, ◌&&◌, ◌↔◌, List, [], ◌∷◌, ◌++◌, length, get_or, slice_set}
use Rattle.dcc_flow.specs.Edges.{is_in, leads, AreWithin}
use Rattle.dcc_interval.specs.Graphs.{IsReached}
use Rattle.dcc_interval.specs.Noted.{Noted}

-- marked, and listed, are just the nodes that are reached
pub record AreReached (next : List (List ℕ)) (entry : ℕ) (found : Noted) : Type 0 where
  pub count : length found.marks ≡ length next
  pub listed : (n : ℕ) → get_or found.marks n false ≡ is_in found.list n
  pub exact : (n : ℕ) → (is_in found.list n ≡ true) ↔ IsReached (leads next) entry n

-- edges lead from a node to these
abbrev pub entered : List (List ℕ) → ℕ → List ℕ → List (List ℕ)
entered sources from [] = sources
entered sources from (to ∷ tos) = entered (slice_set sources to (get_or sources to [] ++ from ∷ [])) from tos

-- the lists of sources after the edges from each of the nodes to those that follow it were added
abbrev pub all_entered : List (List ℕ) → List (List ℕ) → List ℕ → List (List ℕ)
all_entered sources next [] = sources
all_entered sources next (from ∷ froms) = all_entered (entered sources from (get_or next from [])) next froms

-- for each node those of the listed nodes with an edge to it
pub record AreSources (next : List (List ℕ)) (listed : List ℕ) (sources : List (List ℕ)) : Type 0 where
  pub count : length sources ≡ length next
  pub exact : (m n : ℕ) → n < length next
      → is_in (get_or sources n []) m ≡ (is_in listed m && leads next m n)

-- a graph, and for each node the reached nodes with an edge to it
pub record AreTurned (next : List (List ℕ)) (entry : ℕ) (sources : List (List ℕ)) : Type 0 where
  pub within : AreWithin next
  pub inside : entry < length next
  pub count : length sources ≡ length next
  pub exact : (m n : ℕ) → n < length next
      → (is_in (get_or sources n []) m ≡ true) ↔ (IsReached (leads next) entry m × (leads next m n ≡ true))
