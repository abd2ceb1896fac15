-- Operations whose destination stands at a place where nothing is stored, as SP does, which the frame tells: their
-- flags are set, and a temporary has their result.
use Rattle.std.specs.Prelude.{◌≡◌, ℕ, true, false, Option}
use Rattle.dcc_num.specs.declared.Flags.{Flags}
use Rattle.dcc_machine.specs.declared.cpu.Cpu.{Cpu}
use Rattle.dcc_machine.specs.declared.instr.Alu.{Alu}
use Rattle.dcc_machine.specs.declared.instr.Unary.{Unary}
use Rattle.dcc_machine.specs.declared.instr.Operand.{Operand}
use Rattle.dcc_machine.specs.declared.instr.Op.TheVariants.{Alu as AluOp, Unary as UnaryOp}
use Rattle.dcc_machine.specs.Machine.{State as Machine, operand_width, with_operand}
use Rattle.dcc_machine.specs.Operations.{with_flags, is_division}
use Rattle.dcc_machine.specs.Step.{op_step}
use Rattle.dcc_machine.specs.Wanted.{stores_back}
use Rattle.dcc_machine.specs.WellFormed.{IsOperation}
use Rattle.dcc_machine.specs.Writes.{writes_operand}
use Rattle.dcc_ir.specs.declared.syntax.Loc.{Loc}
use Rattle.dcc_ir.specs.Tree.{Expr}
use Rattle.dcc_ir.specs.Run.{State, execute}
use Rattle.dcc_ops.specs.Temporaries.{is_temporary_of}
use Rattle.dcc_ops.specs.OperandPlace.{OperandPlace, computed}
use Rattle.dcc_ops.specs.Statements.{op_stmts}
use Rattle.dcc_ops.specs.Coupling.{Relation, IsRead}

-- The machine has set flags and then its operand. The run is as the machine was between the two, and what the operand
-- took is in a temporary.
pub record IsHeld (R : Relation) (s : Machine) (x : Operand) (after : Machine) (u : State) : Type 0 where
  pub flags : Flags
  pub temporary : Loc
  pub width : is_temporary_of (operand_width x) temporary ≡ true
  pub taken : after ≡ with_operand (with_flags flags s) x (u.running.values temporary)
  pub stands : R (with_flags flags s) u

-- the statements of an operation whose destination stands at a computed place leave its result in a temporary
pub record ResultsAreHeld (R : Relation) : Type 0 where
  pub alu :
      (cpu : Cpu) (operation : Alu) (a b : Operand) (number : Option ℕ) (at : ℕ) (s : Machine) (t : State) (e : Expr)
      (q : OperandPlace) → IsOperation (AluOp operation a b) → writes_operand operation ≡ true
      → IsRead R s a (computed e)
      → IsRead R s b q → R s t
      → IsHeld R s a (op_step cpu (AluOp operation a b) at s)
      (execute (op_stmts cpu (AluOp operation a b) number (computed e) q) t)
  pub unary :
      (cpu : Cpu) (operation : Unary) (a : Operand) (number : Option ℕ) (at : ℕ) (s : Machine) (t : State) (e : Expr)
      (q : OperandPlace) → is_division operation ≡ false → stores_back operation ≡ true → IsRead R s a (computed e)
      → R s t
      → IsHeld R s a (op_step cpu (UnaryOp operation a) at s)
      (execute (op_stmts cpu (UnaryOp operation a) number (computed e) q) t)
