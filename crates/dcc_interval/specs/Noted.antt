-- Numbers that are listed and marked as they come. No public contract rests on it.
use Rattle.std.specs.Prelude.{ℕ, Bool, true, false, if◌then◌else◌, List, [], ◌∷◌, ◌++◌, get_or, slice_set, flat_map}
use Rattle.dcc_interval.specs.declared.noted.Noted.{Noted as NotedOf}

pub record Noted : Type 0 where
  pub marks : List Bool
  pub list : List ℕ

abbrev pub noted_of : NotedOf → Noted
noted_of s = record { marks = s.marks.items; list = s.list.items }

-- the number is marked, and put at the list's end, unless it was marked before
abbrev pub with_noted : Noted → ℕ → Noted
with_noted s n =
    if get_or s.marks n false then s else record { marks = slice_set s.marks n true; list = s.list ++ n ∷ [] }

abbrev pub with_all_noted : Noted → List ℕ → Noted
with_all_noted s [] = s
with_all_noted s (n ∷ ns) = with_all_noted (with_noted s n) ns

-- the nodes that follow these
abbrev pub followers : List (List ℕ) → List ℕ → List ℕ
followers next ms = flat_map (λ m. get_or next m []) ms

-- the marks of these are taken away
abbrev pub all_cleared : List Bool → List ℕ → List Bool
all_cleared marks [] = marks
all_cleared marks (n ∷ ns) = all_cleared (slice_set marks n false) ns
