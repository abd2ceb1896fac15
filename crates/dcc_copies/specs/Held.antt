-- Locations of which several go by one name, the location in which all of them are kept: which of them hold their own
-- value there.
use Rattle.std.specs.Prelude.{Bool, true, false, if◌then◌else◌, List, [], ◌∷◌}
use Rattle.dcc_ir.specs.declared.syntax.Loc.{Loc}
use Rattle.dcc_ir.specs.Tree.{Get, Stmt, Set}
use Rattle.dcc_ir.specs.Location.{same_location}
use Rattle.dcc_ir.specs.Use.{writes_of}

-- of each location, whether its name holds its value
abbrev pub Held : Type 0
Held = Loc → Bool

-- a location was copied to another one of the same name: the name holds the value of the second where it held that of the
-- first
abbrev pub with_copied : Stmt → Held → Held
with_copied (Set to (Get from)) held l = held (if same_location l to then from else l)
with_copied stmt held l = held l

module _ (name : Loc → Loc) where
  -- the statement copies a location to one of the same name
  abbrev pub is_own_copy : Stmt → Bool
  is_own_copy (Set to (Get from)) = same_location (name to) (name from)
  is_own_copy stmt = false

  -- a location was written: its name holds its value, and that of no other location of that name
  abbrev pub with_written : Loc → Held → Held
  with_written x held l =
      if same_location l x then true else (if same_location (name l) (name x) then false else held l)

  abbrev pub all_written : List Loc → Held → Held
  all_written [] held = held
  all_written (x ∷ xs) held = all_written xs (with_written x held)

  -- after a statement
  abbrev pub held_after : Stmt → Held → Held
  held_after stmt held = if is_own_copy stmt then with_copied stmt held else all_written (writes_of stmt) held

  abbrev pub held_after_all : List Stmt → Held → Held
  held_after_all [] held = held
  held_after_all (stmt ∷ rest) held = held_after_all rest (held_after stmt held)
