-- A depth-first search that keeps its own stack. No public contract rests on it.
use Rattle.std.specs.Prelude.{ℕ, ◌+◌, Bool, true, false, if◌then◌else◌, nat_lt, List, [], ◌∷◌, ◌++◌, length, get_or}
use Rattle.std.specs.Prelude.{slice_set}
use Rattle.dcc_flow.specs.declared.search.Search.{Search as SearchOf}

-- which blocks were begun; the blocks that are not finished, each with how many of those that follow it were visited,
-- the newest last; and the finished blocks, the newest last
pub record Search : Type 0 where
  pub seen : List Bool
  pub begun : List (ℕ × ℕ)
  pub finished : List ℕ

abbrev pub search_of : SearchOf → Search
search_of s = record { seen = s.seen.items; begun = s.begun.items; finished = s.finished.items }

-- a block is begun, unless it was before
abbrev pub visited : Search → ℕ → Search
visited s block =
    if get_or s.seen block false then s
    else record s { seen = slice_set s.seen block true; begun = s.begun ++ (block, 0) ∷ [] }

-- the search goes on from a block of whose followers so many were visited
abbrev pub gone_on : List (List ℕ) → Search → ℕ → ℕ → Search
gone_on next s block turn =
    if nat_lt turn (length (get_or next block []))
    then visited (record s { begun = s.begun ++ (block, turn + 1) ∷ [] }) (get_or (get_or next block []) turn 0)
    else record s { finished = s.finished ++ block ∷ [] }
