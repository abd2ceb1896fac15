-- Operations whose destination stands where nothing is stored: to be held in a temporary is a relation as any other,
-- in which each such place is written.
use Rattle.std.proofs.Common.{◌≡◌, refl, sym, subst, ℕ, Bool, true, false, Option, true≢false}
use Rattle.std.specs.Prelude.{if◌then◌else◌}
use Rattle.dcc_machine.specs.declared.cpu.Cpu.{Cpu}
use Rattle.dcc_machine.specs.declared.instr.Alu.{Alu}
use Rattle.dcc_machine.specs.declared.instr.Unary.{Unary}
use Rattle.dcc_machine.specs.declared.instr.Unary.TheVariants.{Inc, Dec, Neg, Not, Mul, Imul, Div, Idiv}
use Rattle.dcc_machine.specs.declared.instr.Operand.{Operand}
use Rattle.dcc_machine.specs.declared.instr.Op.TheVariants.{Alu as AluOp, Unary as UnaryOp}
use Rattle.dcc_machine.specs.Machine.{State as Machine, operand_width}
use Rattle.dcc_machine.specs.Operations.{is_division}
use Rattle.dcc_machine.specs.Step.{op_step}
use Rattle.dcc_machine.specs.Wanted.{is_zeroing, stores_back}
use Rattle.dcc_machine.specs.WellFormed.{AreOperands}
use Rattle.dcc_machine.specs.Writes.{writes_operand}
use Rattle.dcc_ir.specs.Tree.{Expr}
use Rattle.dcc_ir.specs.Run.{State, execute}
use Rattle.dcc_ops.specs.OperandPlace.{OperandPlace, computed}
use Rattle.dcc_ops.specs.Statements.{alu_stmts, zeroing, op_stmts}
use Rattle.dcc_ops.specs.Coupling.{Relation, IsCoupling, IsRead, IsWritten, IsWrittenIf}
use Rattle.dcc_ops.specs.Held.{IsHeld, ResultsAreHeld}
use Rattle.dcc_ops.proofs.AluPerformed.{alu_performed}
use Rattle.dcc_ops.proofs.ZeroPerformed.{zero_held}
use Rattle.dcc_ops.proofs.UnaryPerformed.{inc_performed, dec_performed, neg_performed, not_performed}

module _ (R : Relation) (coupling : IsCoupling R) where
  held : (s : Machine) (x : Operand) (e : Expr) → IsRead R s x (computed e)
      → IsWritten R (IsHeld R s x) s x (computed e)
  held s x e read = record {
    width = read.width;
    sound = refl;
    taken = λ flags t from rel is. record { flags = flags; temporary = from; width = is; taken = refl; stands = rel };
  }

  unary_held : (cpu : Cpu) (operation : Unary) (a : Operand) (number : Option ℕ) (at : ℕ) (s : Machine) (t : State)
      (e : Expr) (q : OperandPlace) → is_division operation ≡ false
      → stores_back operation ≡ true → IsRead R s a (computed e) → R s t
      → IsHeld R s a (op_step cpu (UnaryOp operation a) at s)
      (execute (op_stmts cpu (UnaryOp operation a) number (computed e) q) t)
  unary_held cpu Inc a number at s t e q undivided stores read rel =
      inc_performed R (IsHeld R s a) coupling a (computed e) s t read (held s a e read) rel
  unary_held cpu Dec a number at s t e q undivided stores read rel =
      dec_performed R (IsHeld R s a) coupling a (computed e) s t read (held s a e read) rel
  unary_held cpu Neg a number at s t e q undivided stores read rel =
      neg_performed R (IsHeld R s a) coupling a (computed e) s t read (held s a e read) rel
  unary_held cpu Not a number at s t e q undivided stores read rel =
      not_performed R (IsHeld R s a) coupling a (computed e) s t read (held s a e read) rel
  unary_held cpu Mul a number at s t e q undivided stores read rel = absurd (true≢false (sym stores))
  unary_held cpu Imul a number at s t e q undivided stores read rel = absurd (true≢false (sym stores))
  unary_held cpu Div a number at s t e q undivided stores read rel = absurd (true≢false undivided)
  unary_held cpu Idiv a number at s t e q undivided stores read rel = absurd (true≢false undivided)

  alu_held : (cpu : Cpu) (operation : Alu) (a b : Operand) (number : Option ℕ) (at : ℕ) (s : Machine) (t : State)
      (e : Expr) (q : OperandPlace) → AreOperands a b → writes_operand operation ≡ true → IsRead R s a (computed e)
      → IsRead R s b q → R s t
      → IsHeld R s a (op_step cpu (AluOp operation a b) at s)
      (execute (op_stmts cpu (AluOp operation a b) number (computed e) q) t)
  alu_held cpu operation a b number at s t e q ok writes read other rel = go (is_zeroing operation a b) refl
    where
      go : (zero : Bool) → is_zeroing operation a b ≡ zero
          → IsHeld R s a (op_step cpu (AluOp operation a b) at s) (execute
          (if zero then zeroing (operand_width a) (computed e) else alu_stmts operation (operand_width a) (computed e) q)
          t)
      go true is = zero_held R coupling operation a b e s t is rel
      go false is =
          alu_performed R (IsHeld R s a) coupling operation a b (computed e) q s t ok read other
          (subst (λ (w : Bool). IsWrittenIf w R (IsHeld R s a) s a (computed e)) (sym writes) (held s a e read)) rel

  pub results_held : ResultsAreHeld R
  results_held = record {
    alu = alu_held;
    unary = unary_held;
  }
