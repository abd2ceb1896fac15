-- Instructions that use the stack but CALL and RET, and those that move SP and BP alone.
use Rattle.std.specs.Prelude.{◌≡◌, ℕ, Bool, true, ◌||◌}
use Rattle.dcc_num.specs.declared.Reg.TheVariants.{Sp}
use Rattle.dcc_prog.specs.declared.procedure.Node.{Node}
use Rattle.dcc_machine.specs.declared.instr.Instr.{Instr}
use Rattle.dcc_machine.specs.declared.instr.Op.{Op}
use Rattle.dcc_machine.specs.declared.instr.Op.TheVariants.{Lea, Push, Pop}
use Rattle.dcc_machine.specs.Machine.{State as Machine}
use Rattle.dcc_machine.specs.SpAndBp.{is_sp_move}
use Rattle.dcc_prog.specs.Clean.{Stack}
use Rattle.dcc_ir.specs.Run.{State, execute}
use Rattle.dcc_simulation.specs.Coupled.{Setting}
use Rattle.dcc_simulation.specs.Laws.{IsCleanInstruction, Within}
use Rattle.dcc_simulation.specs.Procedures.{Procedure}
use Rattle.dcc_simulation.specs.Statements.{moves_frame, node_stmts}
use Rattle.dcc_simulation.specs.Nodes.{procedures_in, IsNodeHere, StepAgrees}

-- the operation uses the stack, or moves SP or BP alone: PUSH and POP, ENTER and LEAVE, moves and LEA of SP, `mov
-- bp,sp` and `mov sp,bp`
abbrev pub uses_stack : Op → Bool
uses_stack (Push a) = true
uses_stack (Pop a) = true
uses_stack (Lea Sp ea) = true
uses_stack op = is_sp_move op || moves_frame op

-- after the statements of an instruction that uses the stack, if it has any, both runs agree
abbrev pub StackNodesAgree : Type 0
StackNodesAgree =
    (e : Setting) (s : Machine) (stack : Stack) (instr : Instr) (t : State) (p : Procedure) (node : Node) (height : ℕ)
    (is : IsCleanInstruction e s stack instr) → IsNodeHere e s stack instr is p node height
    → uses_stack instr.op ≡ true → Within is stack.written s t
    → StepAgrees e s stack instr (execute (node_stmts e.cpu (procedures_in e.program) p height node) t)
