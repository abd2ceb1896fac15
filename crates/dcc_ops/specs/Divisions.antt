-- What DIV and IDIV do, where the upper half of what is divided is 0, or for IDIV the sign of the lower half.
use Rattle.std.specs.Prelude.{◌≡◌, ℕ, Bool, true, false, Option}
use Rattle.dcc_run.specs.End.{Divide}
use Rattle.dcc_num.specs.declared.Width.{Width}
use Rattle.dcc_num.specs.Product.{extension_of}
use Rattle.dcc_machine.specs.declared.cpu.Cpu.{Cpu}
use Rattle.dcc_machine.specs.declared.instr.Unary.TheVariants.{Div as DivOf, Idiv}
use Rattle.dcc_machine.specs.declared.instr.Operand.{Operand}
use Rattle.dcc_machine.specs.declared.instr.Op.TheVariants.{Unary as UnaryOp}
use Rattle.dcc_machine.specs.Machine.{State as Machine, operand_width}
use Rattle.dcc_machine.specs.Operations.{with_end, accumulator_in, upper_in}
use Rattle.dcc_machine.specs.Step.{op_step}
use Rattle.dcc_ir.specs.Run.{State, ended, execute}
use Rattle.dcc_ops.specs.OperandPlace.{OperandPlace}
use Rattle.dcc_ops.specs.Statements.{op_stmts}
use Rattle.dcc_ops.specs.Coupling.{Relation, IsRead}

-- the upper half of what is divided is 0, or for a signed division the sign of the lower half
abbrev pub HasUpper : Bool → Width → Machine → Type 0
HasUpper true w s = upper_in w s ≡ extension_of w (accumulator_in w s)
HasUpper false w s = upper_in w s ≡ 0

-- the relation holds after the division, or both ended by a divide fault in states that are related but for that end
pub data IsDivided (R : Relation) (at : ℕ) (s : Machine) : Machine → State → Type 0 where
  divides : {after : Machine} {u : State} → R after u → IsDivided R at s after u
  faults : {u : State} → R s u → IsDivided R at s (with_end Divide at s) (ended Divide u)

-- the statements of a division, whose upper half is prepared, divide as the machine does
pub record DivisionsArePerformed (R : Relation) : Type 0 where
  pub unsigned :
      (cpu : Cpu) (x : Operand) (number : Option ℕ) (at : ℕ) (s : Machine) (t : State) (p q : OperandPlace)
      → IsRead R s x p
      → HasUpper false (operand_width x) s → R s t
      → IsDivided R at s (op_step cpu (UnaryOp DivOf x) at s) (execute (op_stmts cpu (UnaryOp DivOf x) number p q) t)
  pub signed :
      (cpu : Cpu) (x : Operand) (number : Option ℕ) (at : ℕ) (s : Machine) (t : State) (p q : OperandPlace)
      → IsRead R s x p
      → HasUpper true (operand_width x) s → R s t
      → IsDivided R at s (op_step cpu (UnaryOp Idiv x) at s) (execute (op_stmts cpu (UnaryOp Idiv x) number p q) t)
