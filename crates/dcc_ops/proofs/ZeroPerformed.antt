-- XOR and SUB of a register with itself: their statements set the flags of 0, and move 0 there.
use Rattle.std.proofs.Common.{◌≡◌, sym, ap, refl, subst, ◌<◌, true, List, ◌++◌, arith, true≢false}
use Rattle.dcc_num.specs.declared.Width.{Width}
use Rattle.dcc_num.specs.declared.Width.TheVariants.{Byte as byte_width, Word as word_width}
use Rattle.dcc_num.specs.Numbers.{limit_of}
use Rattle.dcc_machine.specs.declared.instr.Alu.{Alu}
use Rattle.dcc_machine.specs.declared.instr.Alu.TheVariants.{Sub, Xor}
use Rattle.dcc_machine.specs.declared.instr.Operand.{Operand}
use Rattle.dcc_machine.specs.declared.instr.Operand.TheVariants.{Const as Constant}
use Rattle.dcc_machine.specs.Machine.{State as Machine, operand_value, operand_width}
use Rattle.dcc_machine.specs.Operations.{with_flags, with_result, alu_step}
use Rattle.dcc_machine.specs.WellFormed.{IsOperand}
use Rattle.dcc_machine.specs.Wanted.{is_zeroing}
use Rattle.dcc_machine.specs.Writes.{writes_operand}
use Rattle.dcc_machine.proofs.ZeroingLaws.{zeroed, zeroed-result}
use Rattle.dcc_ir.specs.Tree.{Expr, Stmt}
use Rattle.dcc_ir.specs.Run.{State, execute}
use Rattle.dcc_ir.specs.Location.{Values}
use Rattle.dcc_ir.proofs.ExecuteLaws.{execute-append}
use Rattle.dcc_ops.specs.Temporaries.{left_place, is_temporary_of}
use Rattle.dcc_ops.specs.OperandPlace.{OperandPlace, constant, computed}
use Rattle.dcc_ops.specs.Expressions.{bit}
use Rattle.dcc_ops.specs.Statements.{flags_taking, carry_taking, mov_stmts, zeroing}
use Rattle.dcc_ops.specs.Coupling.{Relation, IsCoupling, IsWritten}
use Rattle.dcc_ops.specs.Held.{IsHeld}
use Rattle.dcc_ops.proofs.CouplingLaws.{worked_on, scratch_values, register_read}
use Rattle.dcc_ops.proofs.MovePerformed.{mov_performed}

-- the machine makes 0 and its flags
zeroed_step : (operation : Alu) (a b : Operand) (s : Machine) → is_zeroing operation a b ≡ true
    → alu_step operation (operand_width a) a (operand_value s a) (operand_value s b) s ≡ with_result a zeroed s
zeroed_step Xor a b s e = ap (λ r. with_result a r s) (zeroed-result Xor a b (operand_width a) s s.flags.cf e)
zeroed_step Sub a b s e = ap (λ r. with_result a r s) (zeroed-result Sub a b (operand_width a) s s.flags.cf e)
zeroed_step operation a b s e = absurd (true≢false (sym e))

-- an operation that makes 0 writes its operand
pub zeroing_writes : (operation : Alu) (a b : Operand) → is_zeroing operation a b ≡ true → writes_operand operation ≡ true
zeroing_writes Xor a b e = refl
zeroing_writes Sub a b e = refl
zeroing_writes operation a b e = absurd (true≢false (sym e))

zero_fits : (w : Width) → 0 < limit_of w
zero_fits byte_width = omega arith
zero_fits word_width = omega arith

-- the flags of 0
abbrev zero_flags : List Stmt
zero_flags = flags_taking (bit 0) (bit 0) (bit 1) ++ carry_taking (bit 0)

module _ (R After : Relation) (coupling : IsCoupling R) (after : IsCoupling After) where
  pub zero_performed : (operation : Alu) (a b : Operand) (p : OperandPlace) (s : Machine) (t : State) → IsOperand a
      → is_zeroing operation a b ≡ true → IsWritten R After s a p → R s t
      → After (alu_step operation (operand_width a) a (operand_value s a) (operand_value s b) s)
      (execute (zeroing (operand_width a) p) t)
  zero_performed operation a b p s t ok zero written rel =
      let w = operand_width a in
      let flagged = with_flags zeroed.1 s in
      let u = execute zero_flags t in
      let stands : R flagged u =
      worked_on R coupling zero_flags s t zeroed.1 refl
      (record { carry = refl; zero = refl; negative = refl; overflow = refl }) rel in
      let moved : After (with_result a zeroed s) (execute (mov_stmts w p (constant w 0)) u) =
      mov_performed R After coupling after a (Constant w 0) flagged u
      (record { first = ok; second = zero_fits w; widths = refl }) stands p (constant w 0)
      (register_read R coupling flagged (Constant w 0) refl (zero_fits w)) refl
      (record { width = written.width; sound = written.sound; taken = written.taken }) in
      subst (λ m. After m (execute (zeroing w p) t)) (sym (zeroed_step operation a b s zero))
      (subst (After (with_result a zeroed s)) (sym (execute-append zero_flags (mov_stmts w p (constant w 0)) t)) moved)

module _ (R : Relation) (coupling : IsCoupling R) where
  -- where nothing is stored, the temporary of the left operand has 0
  pub zero_held : (operation : Alu) (a b : Operand) (e : Expr) (s : Machine) (t : State)
      → is_zeroing operation a b ≡ true → R s t
      → IsHeld R s a (alu_step operation (operand_width a) a (operand_value s a) (operand_value s b) s)
      (execute (zeroing (operand_width a) (computed e)) t)
  zero_held operation a b e s t zero rel =
      subst (λ m. IsHeld R s a m (execute (zeroing (operand_width a) (computed e)) t))
      (sym (zeroed_step operation a b s zero)) (by (operand_width a) refl)
    where
      by : (w : Width) → operand_width a ≡ w → IsHeld R s a (with_result a zeroed s) (execute (zeroing w (computed e)) t)
      by byte_width is = record {
        flags = zeroed.1;
        temporary = left_place byte_width;
        width = ap (λ w. is_temporary_of w (left_place byte_width)) is;
        taken = ap (λ (values : Values). with_result a (values (left_place byte_width), zeroed.1) s)
            (sym (scratch_values R coupling (zeroing byte_width (computed e)) s t refl rel));
        stands = worked_on R coupling (zeroing byte_width (computed e)) s t zeroed.1 refl
            (record { carry = refl; zero = refl; negative = refl; overflow = refl }) rel;
      }
      by word_width is = record {
        flags = zeroed.1;
        temporary = left_place word_width;
        width = ap (λ w. is_temporary_of w (left_place word_width)) is;
        taken = ap (λ (values : Values). with_result a (values (left_place word_width), zeroed.1) s)
            (sym (scratch_values R coupling (zeroing word_width (computed e)) s t refl rel));
        stands = worked_on R coupling (zeroing word_width (computed e)) s t zeroed.1 refl
            (record { carry = refl; zero = refl; negative = refl; overflow = refl }) rel;
      }
