-- How edges are turned round, one after another. No public contract rests on it.
use Rattle.std.specs.Prelude.{ℕ, ◌+◌, ◌-◌, ◌==◌, Bool, false, if◌then◌else◌, List, [], ◌∷◌, ◌++◌, length, get_or}
use Rattle.std.specs.Prelude.{slice_get, slice_set, Option, Some, None}

abbrev pub is_number : Option ℕ → ℕ → Bool
is_number (Some m) n = m == n
is_number None n = false

-- the list with the number at its end, if it does not stand there
abbrev pub added : List ℕ → ℕ → List ℕ
added list n = if is_number (slice_get list (length list - 1)) n then list else list ++ n ∷ []

-- edges lead from a block to these
abbrev pub entered : List (List ℕ) → ℕ → List ℕ → List (List ℕ)
entered sources from [] = sources
entered sources from (to ∷ tos) = entered (slice_set sources to (added (get_or sources to []) from)) from tos

-- the lists of sources after the edges from each block, from one number on, were added
abbrev pub all_entered : List (List ℕ) → ℕ → List (List ℕ) → List (List ℕ)
all_entered sources from [] = sources
all_entered sources from (tos ∷ next) = all_entered (entered sources from tos) (from + 1) next
