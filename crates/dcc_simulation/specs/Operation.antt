-- Operations whose statements take their operands from their places, and put their result there.
use Rattle.std.specs.Prelude.{◌≡◌, ℕ, Bool, true, false, not, ◌&&◌, ◌||◌}
use Rattle.dcc_prog.specs.declared.procedure.Node.{Node}
use Rattle.dcc_machine.specs.declared.instr.Op.{Op}
use Rattle.dcc_machine.specs.declared.instr.Op.TheVariants.{Alu, Unary, Shift, Mov, Xchg, Imul3, Plain, Jump, Branch}
use Rattle.dcc_machine.specs.declared.instr.Op.TheVariants.{Loop, LoopE, LoopNe, Jcxz}
use Rattle.dcc_machine.specs.declared.instr.Instr.{Instr}
use Rattle.dcc_machine.specs.Machine.{State as Machine}
use Rattle.dcc_machine.specs.Operations.{is_division}
use Rattle.dcc_machine.specs.SpAndBp.{is_sp_move}
use Rattle.dcc_prog.specs.Clean.{Stack}
use Rattle.dcc_ir.specs.Run.{State, execute}
use Rattle.dcc_ops.specs.Performed.{is_xlat}
use Rattle.dcc_simulation.specs.Coupled.{Setting}
use Rattle.dcc_simulation.specs.Laws.{IsCleanInstruction, Within}
use Rattle.dcc_simulation.specs.Procedures.{Procedure}
use Rattle.dcc_simulation.specs.Statements.{moves_frame, node_stmts}
use Rattle.dcc_simulation.specs.Nodes.{procedures_in, IsNodeHere, StepAgrees}

-- the operation is one whose statements take its operands from their places and put its result there, or a jump with
-- no statement
abbrev pub is_performed : Op → Bool
is_performed (Alu operation a b) = true
is_performed (Unary operation a) = not (is_division operation)
is_performed (Shift operation a count) = true
is_performed (Mov to from) = true
is_performed (Xchg a b) = true
is_performed (Imul3 r a factor) = true
is_performed (Plain operation) = not (is_xlat operation)
is_performed (Jump target) = true
is_performed (Branch condition target) = true
is_performed (Loop target) = true
is_performed (LoopE target) = true
is_performed (LoopNe target) = true
is_performed (Jcxz target) = true
is_performed op = false

-- the operation takes its operands from their places, puts its result there, or is a jump; and it leaves SP and BP
abbrev pub is_plain_operation : Op → Bool
is_plain_operation op = is_performed op && not (is_sp_move op || moves_frame op)

-- after the statements of an operation that takes its operands from places and leaves SP and BP both runs agree
abbrev pub OperationNodesAgree : Type 0
OperationNodesAgree =
    (e : Setting) (s : Machine) (stack : Stack) (instr : Instr) (t : State) (p : Procedure) (node : Node) (height : ℕ)
    (is : IsCleanInstruction e s stack instr) → IsNodeHere e s stack instr is p node height
    → is_plain_operation instr.op ≡ true → Within is stack.written s t
    → StepAgrees e s stack instr (execute (node_stmts e.cpu (procedures_in e.program) p height node) t)
