-- Numbers that code gives to the webs of a block, from its end to its begin. No public contract rests on it.
use Rattle.std.specs.Prelude.{ℕ, Bool, true, false, List, [], ◌∷◌, ◌++◌, length, get_or, if◌then◌else◌, Option}
use Rattle.std.specs.Prelude.{Some, None}
use Rattle.dcc_ir.specs.declared.syntax.Loc.{Loc}
use Rattle.dcc_ir.specs.Location.{same_location}
use Rattle.dcc_ir.specs.Live.{is_among}
use Rattle.dcc_flow.specs.Marks.{location_number, members}
use Rattle.dcc_flow.specs.Access.{Access, BlockAccess}
use Rattle.dcc_webs.specs.declared.names.Names.{Names as NamesOf}

-- the number of each location that has one, and for each number that was given its location
pub record Names : Type 0 where
  pub number : Loc → Option ℕ
  pub origins : List Loc

-- what the declared names stand for
abbrev pub names_of : NamesOf → Names
names_of names = record {
  number = λ location.
      if members names.has location then Some (get_or names.numbers.items (location_number location) 0) else None;
  origins = names.origins.items;
}

-- no location has a number
abbrev pub no_names : Names
no_names = record { number = λ location. None; origins = [] }

abbrev pub is_some : Option ℕ → Bool
is_some (Some n) = true
is_some None = false

-- the location takes the next number
abbrev pub with_number : Names → Loc → Names
with_number names x = record {
  number = λ location. if same_location location x then Some (length names.origins) else names.number location;
  origins = names.origins ++ x ∷ [];
}

abbrev pub all_with_numbers : Names → List Loc → Names
all_with_numbers names [] = names
all_with_numbers names (x ∷ xs) = all_with_numbers (with_number names x) xs

-- the location has a number: its own, or the next one
abbrev pub named : Names → Loc → Names
named names x = if is_some (names.number x) then names else with_number names x

abbrev pub all_named : Names → List Loc → Names
all_named names [] = names
all_named names (x ∷ xs) = all_named (named names x) xs

-- the locations have no number
abbrev pub without_names : Names → List Loc → Names
without_names names xs =
    record names { number = λ location. if is_among xs location then None else names.number location }

-- The numbers of the locations that are live at places of a block. What is live at its end has the numbers from 0 on.

-- what stands for what a statement writes, by the numbers after it
abbrev pub at_writes : Access → Names → Names
at_writes a after = all_named after a.writes

-- the numbers before a statement
abbrev pub before_one : Access → Names → Names
before_one a after = all_named (without_names (at_writes a after) a.writes) a.reads

-- the numbers before statements
abbrev pub before_all : List Access → Names → Names
before_all [] after = after
before_all (a ∷ stmts) after = before_one a (before_all stmts after)

-- the numbers after the statements of a block, where these locations are live at its end and its end reads these
abbrev pub at_exit : List Loc → List Loc → Names
at_exit at_end last = all_named (all_with_numbers no_names at_end) last

-- the numbers before a block
abbrev pub before_block : List Loc → BlockAccess → Names
before_block at_end b = before_all b.stmts (at_exit at_end b.last)
