-- Instructions that do what no other does: they divide, call DOS, take a byte of a table or jump through one, or take
-- an address.
use Rattle.std.specs.Prelude.{◌≡◌, ℕ, Bool, true, false}
use Rattle.dcc_num.specs.declared.Reg.TheVariants.{Sp}
use Rattle.dcc_prog.specs.declared.procedure.Node.{Node}
use Rattle.dcc_machine.specs.declared.instr.Instr.{Instr}
use Rattle.dcc_machine.specs.declared.instr.Op.{Op}
use Rattle.dcc_machine.specs.declared.instr.Op.TheVariants.{Unary, Lea, Plain, Table, Int21}
use Rattle.dcc_machine.specs.Machine.{State as Machine}
use Rattle.dcc_prog.specs.Clean.{Stack}
use Rattle.dcc_machine.specs.Operations.{is_division}
use Rattle.dcc_ir.specs.Run.{State, execute}
use Rattle.dcc_ops.specs.Performed.{is_xlat}
use Rattle.dcc_simulation.specs.Coupled.{Setting}
use Rattle.dcc_simulation.specs.Laws.{IsCleanInstruction, Within}
use Rattle.dcc_simulation.specs.Procedures.{Procedure}
use Rattle.dcc_simulation.specs.Statements.{node_stmts}
use Rattle.dcc_simulation.specs.Nodes.{procedures_in, IsNodeHere, StepAgrees}

-- the operation does what no other does: DIV and IDIV, LEA of another register than SP, XLAT, a jump through a table,
-- INT 21h
abbrev pub is_special : Op → Bool
is_special (Unary operation a) = is_division operation
is_special (Lea Sp ea) = false
is_special (Lea r ea) = true
is_special (Plain operation) = is_xlat operation
is_special (Table r offset) = true
is_special Int21 = true
is_special op = false

-- after the statements of an instruction that does what no other does both runs agree, or both have ended alike
abbrev pub SpecialNodesAgree : Type 0
SpecialNodesAgree =
    (e : Setting) (s : Machine) (stack : Stack) (instr : Instr) (t : State) (p : Procedure) (node : Node) (height : ℕ)
    (is : IsCleanInstruction e s stack instr) → IsNodeHere e s stack instr is p node height
    → is_special instr.op ≡ true → Within is stack.written s t
    → StepAgrees e s stack instr (execute (node_stmts e.cpu (procedures_in e.program) p height node) t)
