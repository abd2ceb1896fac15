-- What a procedure takes and gives back, and how the block of its last instruction ends.
use Rattle.std.specs.Prelude.{ℕ, ◌+◌, ◌*◌, pos, true, List, ◌++◌, map}
use Rattle.std.specs.List.{range_with_len}
use Rattle.dcc_num.specs.declared.Width.TheVariants.{Word as word_width}
use Rattle.dcc_machine.specs.declared.instr.Op.{Op}
use Rattle.dcc_machine.specs.declared.instr.Op.TheVariants.{Table, Ret as RetOp}
use Rattle.dcc_ir.specs.declared.syntax.BinOp.TheVariants.{Shr}
use Rattle.dcc_ir.specs.declared.syntax.Put.{Put}
use Rattle.dcc_ir.specs.declared.syntax.Put.TheVariants.{Memory, Two}
use Rattle.dcc_ir.specs.declared.syntax.Param.{Param}
use Rattle.dcc_ir.specs.Tree.{Expr, Const, Get, Binary, Exit, Switch, Ret}
use Rattle.dcc_ir.specs.Passing.{passed, param_of, bytes_of}
use Rattle.dcc_ops.specs.OperandPlace.{OperandPlace, word}
use Rattle.dcc_ops.specs.Expressions.{word_of}
use Rattle.dcc_ops.specs.Statements.{op_test, exit_to}
use Rattle.dcc_simulation.specs.Procedures.{Procedure, frame_place, given_back}

-- Params.

-- an argument word goes to its cell, or to memory, where it then stands
abbrev pub put_of : OperandPlace → Put
put_of (word low high) = Two low high
put_of place = Memory

abbrev pub argument_param : Procedure → ℕ → Param
argument_param p number =
    record { stack = true; put = put_of (frame_place p word_width (pos (4 + 2 * number))) }

abbrev pub argument_params : Procedure → List Param
argument_params p = map (argument_param p) (range_with_len 0 p.frame.args)

-- the argument words of the stack, then the halves and flags
abbrev pub params_of : Procedure → List Param
params_of p = argument_params p ++ map param_of passed

-- Ends.

-- a RET gives halves and flags, then the bytes of the argument words that the procedure may change
abbrev pub returned_values : Procedure → List Expr
returned_values p = map Get passed ++ bytes_of (argument_params p) (given_back p)

-- how the block of an operation ends, by the places of its successors' blocks; a table's register holds twice the
-- number of its target
abbrev pub exit_of : Procedure → Op → List ℕ → Exit
exit_of p (Table r offset) places = Switch (Binary Shr 16 (word_of r) (Const 16 1)) places
exit_of p (RetOp count) places = Ret (returned_values p)
exit_of p op places = exit_to (op_test op) places
