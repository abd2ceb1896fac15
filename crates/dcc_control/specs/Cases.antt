-- Cases of a choice, as they are gathered.
use Rattle.std.specs.Prelude.{ℕ, List, [], ◌∷◌, ◌++◌, get_or, set, Option, Some, None}

-- the lists after a number is put at the end of the one at that place, where there is one
abbrev pub with_case : Option ℕ → ℕ → List (List ℕ) → List (List ℕ)
with_case None n lists = lists
with_case (Some i) n lists = set lists i (get_or lists i [] ++ n ∷ [])
