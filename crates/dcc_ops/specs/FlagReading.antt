-- The statements of operations read flags, where they set one, as a negation or as an arm of a choice alone.
use Rattle.std.specs.Prelude.{◌≡◌, ℕ, Bool, true, ◌&&◌, Option}
use Rattle.std.specs.List.{list_all}
use Rattle.dcc_machine.specs.declared.cpu.Cpu.{Cpu}
use Rattle.dcc_machine.specs.declared.instr.Op.{Op}
use Rattle.dcc_ir.specs.Tree.{Stmt}
use Rattle.dcc_ir.specs.FlagReads.{nests_flatly, loads_plainly}
use Rattle.dcc_ops.specs.OperandPlace.{OperandPlace, is_sound_place}
use Rattle.dcc_ops.specs.Statements.{op_stmts}

-- a statement that sets a flag reads flags as the negation of one or as an arm of a choice alone, and loads from plain
-- addresses
abbrev pub sets_flags_plainly : Stmt → Bool
sets_flags_plainly stmt = nests_flatly stmt && loads_plainly stmt

-- each statement of an operation that sets a flag does so plainly, wherever the operands stand
abbrev pub OperationsSetFlagsPlainly : Type 0
OperationsSetFlagsPlainly =
    (cpu : Cpu) (op : Op) (number : Option ℕ) (p q : OperandPlace) → is_sound_place p ≡ true → is_sound_place q ≡ true
    → list_all sets_flags_plainly (op_stmts cpu op number p q) ≡ true
