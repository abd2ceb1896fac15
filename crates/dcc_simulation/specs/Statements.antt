-- The statements that stand for an instruction of a procedure. Pushes and pops move words, as MOV does. A CALL passes
-- the callee's argument words, all halves and all flags; it takes halves and flags back, and then the bytes of the
-- argument words that the callee may change, each through a temporary of its own. What only moves SP or BP has no
-- statement.
use Rattle.std.specs.Prelude.{ℕ, suc, ◌+◌, ◌*◌, ℤ, pos, ◌+ℤ◌, ◌-ℤ◌, neg_ℤ, Bool, ◌||◌, if◌then◌else◌, List, [], ◌∷◌}
use Rattle.std.specs.Prelude.{◌++◌, length, map, Option, Some, None}
use Rattle.std.specs.List.{range_with_len}
use Rattle.dcc_num.specs.declared.Width.TheVariants.{Byte as byte_width, Word as word_width}
use Rattle.dcc_machine.specs.declared.cpu.Cpu.{Cpu}
use Rattle.dcc_prog.specs.declared.procedure.Node.{Node}
use Rattle.dcc_machine.specs.declared.instr.Operand.TheVariants.{Word}
use Rattle.dcc_machine.specs.declared.instr.Op.{Op}
use Rattle.dcc_machine.specs.declared.instr.Op.TheVariants.{Lea, Push, Pop, Call as CallOp}
use Rattle.dcc_machine.specs.SpAndBp.{is_push_bp, is_mov_bp_sp, is_enter, leaves_frame}
use Rattle.dcc_ir.specs.declared.syntax.Loc.{Loc}
use Rattle.dcc_ir.specs.Tree.{Expr, Get, Stmt, Call}
use Rattle.dcc_ir.specs.Passing.{passed}
use Rattle.dcc_ops.specs.Temporaries.{returned_place}
use Rattle.dcc_ops.specs.OperandPlace.{OperandPlace, place_value, storing, computed}
use Rattle.dcc_ops.specs.Computed.{computed_expr}
use Rattle.dcc_ops.specs.Registers.{register_place}
use Rattle.dcc_ops.specs.Statements.{mov_stmts, op_stmts}
use Rattle.dcc_simulation.specs.Procedures.{Procedure, procedure_at, frame_place, given_back}
use Rattle.dcc_simulation.specs.Operands.{address_of, operand_place, first_place, second_place}

-- Pushes and pops.

-- the word at the top of the stack; `place_below_top`: the word below it
abbrev pub top_place : Procedure → ℕ → OperandPlace
top_place p height = frame_place p word_width (pos 2 -ℤ pos height)

abbrev pub place_below_top : Procedure → ℕ → OperandPlace
place_below_top p height = frame_place p word_width (neg_ℤ (pos height))

-- Calls.

-- where the caller has an argument word of its callee, at a height: the distance of its first byte from the frame's
-- base less 4
abbrev pub argument_offset : ℕ → ℕ → ℤ
argument_offset height number = pos (2 + 2 * number) -ℤ pos height

abbrev pub argument_value : Procedure → ℕ → ℕ → Expr
argument_value caller height number =
    place_value (frame_place caller word_width (argument_offset height number))

-- the caller's bytes of an argument word take what the callee gave back for it
abbrev pub taking_back : Procedure → ℕ → ℕ → ℕ → List Stmt
taking_back caller height index number =
    storing (frame_place caller byte_width (argument_offset height number)) (Get (returned_place (2 * index)))
    ++ storing (frame_place caller byte_width (argument_offset height number +ℤ pos 1))
    (Get (returned_place (2 * index + 1)))

-- the statements by which several argument words take what the callee gave back, from an index on
abbrev pub taking_all_back : Procedure → ℕ → ℕ → List ℕ → List Stmt
taking_all_back caller height index [] = []
taking_all_back caller height index (number ∷ numbers) =
    taking_back caller height index number ++ taking_all_back caller height (suc index) numbers

-- the places of a call's results
abbrev pub results_of : Procedure → List Loc
results_of callee = passed ++ map returned_place (range_with_len 0 (2 * length (given_back callee)))

abbrev pub arguments_of : Procedure → ℕ → Procedure → List Expr
arguments_of caller height callee =
    map (argument_value caller height) (range_with_len 0 callee.frame.args) ++ map Get passed

-- a CALL; the callee's base lies two bytes above SP, where the return address is pushed
abbrev pub calling : Procedure → ℕ → Option Procedure → List Stmt
calling caller height None = []
calling caller height (Some callee) =
    Call (results_of callee) callee.proc.entry (arguments_of caller height callee) (height + 2)
    ∷ taking_all_back caller height 0 (given_back callee)

-- Instructions.

-- the operation saves BP, sets it up or gives it back, or moves SP to it
abbrev pub moves_frame : Op → Bool
moves_frame op = is_push_bp op || is_mov_bp_sp op || is_enter op || leaves_frame op

-- the statements of an operation that doesn't save, set up or give back BP, at a height, with the number of its DOS
-- call
abbrev pub working_stmts : Cpu → List Procedure → Procedure → ℕ → Op → Option ℕ → List Stmt
working_stmts cpu procedures p height (Push a) number =
    mov_stmts word_width (place_below_top p height) (operand_place p height a)
working_stmts cpu procedures p height (Pop a) number =
    mov_stmts word_width (operand_place p height a) (top_place p height)
working_stmts cpu procedures p height (Lea r ea) number =
    mov_stmts word_width (register_place (Word r)) (computed (computed_expr (address_of ea)))
working_stmts cpu procedures p height (CallOp target) number = calling p height (procedure_at procedures target)
working_stmts cpu procedures p height op number =
    op_stmts cpu op number (first_place p height op) (second_place p height op)

-- the statements of an instruction of a procedure, among all procedures, at a height
abbrev pub node_stmts : Cpu → List Procedure → Procedure → ℕ → Node → List Stmt
node_stmts cpu procedures p height node =
    if moves_frame node.instr.op then [] else working_stmts cpu procedures p height node.instr.op node.number
