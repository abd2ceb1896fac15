-- The height after an operation, as it is computed. This stands between the definitions and the code; no public
-- contract rests on it.
use Rattle.std.specs.Prelude.{ℕ, ℤ, pos, ◌+ℤ◌, ◌-ℤ◌, nat_eq, List, Option, Some, None, unwrap_or}
use Rattle.std.specs.Map.{lookup}
use Rattle.dcc_machine.specs.declared.instr.Op.{Op}
use Rattle.dcc_machine.specs.declared.instr.Op.TheVariants.{Push, Pop, Call}
use Rattle.dcc_prog.specs.Height.{lowering_of, height_set_by}

-- how many bytes a CALL of the procedure with this entry removes, by a list of entries
abbrev pub removed_in : List (ℕ × ℕ) → ℕ → ℕ
removed_in removed target = unwrap_or (lookup (nat_eq target) removed) 0

-- the height after an operation: the height before it and the bytes by which a move of SP lowers SP, else the height
-- that the operation sets, else the height before it
abbrev pub moved_by : Option ℤ → Option ℤ → ℤ → ℤ
moved_by (Some bytes) set height = height +ℤ bytes
moved_by None set height = unwrap_or set height

-- the height after an operation
abbrev pub height_after : (ℕ → ℕ) → Op → ℤ → ℤ
height_after removed (Push a) height = height +ℤ pos 2
height_after removed (Pop a) height = height -ℤ pos 2
height_after removed (Call target) height = height -ℤ pos (removed target)
height_after removed op height = moved_by (lowering_of op) (height_set_by op) height
