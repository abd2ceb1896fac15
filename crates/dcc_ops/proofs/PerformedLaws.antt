-- The statements of each operation do to the run what the operation does to the machine, in any coupling.
use Rattle.std.proofs.Common.{◌≡◌, ◌∙◌, sym, ap, refl, subst, ℕ, ◌+◌, ◌-◌, ◌%◌, ◌^◌, ◌<◌, Bool, true, false, not, Option, arith, true≢false}
use Rattle.std.specs.Prelude.{if◌then◌else◌}
use Rattle.std.specs.Int.{from_bool}
use Rattle.std.specs.List.{list_all}
use Rattle.dcc_num.specs.declared.Width.TheVariants.{Word as word_width}
use Rattle.dcc_num.specs.declared.Reg.TheVariants.{Cx}
use Rattle.dcc_num.specs.declared.FlagName.TheVariants.{Cf}
use Rattle.dcc_machine.specs.declared.cpu.Cpu.{Cpu}
use Rattle.dcc_machine.specs.declared.instr.Alu.{Alu}
use Rattle.dcc_machine.specs.declared.instr.Unary.{Unary}
use Rattle.dcc_machine.specs.declared.instr.Unary.TheVariants.{Inc, Dec, Neg, Not, Mul, Imul, Div, Idiv}
use Rattle.dcc_machine.specs.declared.instr.Plain.{Plain}
use Rattle.dcc_machine.specs.declared.instr.Plain.TheVariants.{Nop, Cbw, Cwd, Xlat, Clc, Stc, Cmc, Cli, Sti, Cld}
use Rattle.dcc_machine.specs.declared.instr.Operand.{Operand}
use Rattle.dcc_machine.specs.declared.instr.Operand.TheVariants.{Word}
use Rattle.dcc_machine.specs.declared.instr.Op.TheVariants.{Alu as AluOp, Unary as UnaryOp, Shift as ShiftOp, Mov, Xchg, Lea, Imul3, Push, Pop, Enter, Leave, Plain as PlainOp, Jump, Branch, Loop, LoopE, LoopNe, Jcxz, Table, Call, Ret, Int21}
use Rattle.dcc_machine.specs.Machine.{State as Machine, operand_width, word_in, with_word_in}
use Rattle.dcc_machine.specs.Operations.{with_carry, loop_step, is_division}
use Rattle.dcc_machine.specs.Step.{op_step}
use Rattle.dcc_machine.specs.Wanted.{is_zeroing, stores_back}
use Rattle.dcc_machine.specs.WellFormed.{AreOperands}
use Rattle.dcc_machine.specs.Writes.{writes_operand}
use Rattle.dcc_ir.specs.declared.syntax.Loc.TheVariants.{Flag, Temp}
use Rattle.dcc_ir.specs.declared.syntax.BinOp.TheVariants.{Sub as SubOp}
use Rattle.dcc_ir.specs.Location.{Values}
use Rattle.dcc_ir.specs.Tree.{Expr}
use Rattle.dcc_ir.specs.Value.{value_of}
use Rattle.dcc_ir.specs.Run.{State, scene_of, execute}
use Rattle.dcc_ir.proofs.ExecuteLaws.{execute-append}
use Rattle.dcc_ops.specs.OperandPlace.{OperandPlace}
use Rattle.dcc_ops.specs.Expressions.{word_of, at_width, number, bit, flag, negated, result}
use Rattle.dcc_ops.specs.Statements.{result_taking, word_taking, carry_taking, counting, alu_stmts, zeroing, op_stmts}
use Rattle.dcc_ops.specs.Coupling.{Relation, IsCoupling, IsRead, IsWrittenIf, Follows}
use Rattle.dcc_ops.specs.Performed.{is_xlat, OperationsArePerformed, RegistersStand}
use Rattle.dcc_ops.proofs.SumValues.{not_bit}
use Rattle.dcc_ops.proofs.CouplingLaws.{sets_scratch, worked_on, sets_values, register_value, register_taken, register_read, register_written, word_bytes, held_below}
use Rattle.dcc_ops.proofs.AluPerformed.{alu_performed}
use Rattle.dcc_ops.proofs.ZeroPerformed.{zeroing_writes, zero_performed}
use Rattle.dcc_ops.proofs.UnaryPerformed.{inc_performed, dec_performed, neg_performed, not_performed}
use Rattle.dcc_ops.proofs.ShiftPerformed.{shift_performed}
use Rattle.dcc_ops.proofs.ProductPerformed.{mul_performed, imul_performed, triple_performed, cbw_performed, cwd_performed}
use Rattle.dcc_ops.proofs.MovePerformed.{mov_performed, xchg_performed}

-- CX, lowered by 1
pub lowered_is : (n : ℕ) → (n + 65536 - 1) % 65536 ≡ (n + 65535) % 65536
lowered_is n = ap (λ k. k % 65536) (omega arith)

pub complement_bit : (k : ℕ) (p : Bool) → k ≡ from_bool p → 2 ^ 1 - 1 - k ≡ from_bool (not p)
complement_bit k p e = ap (λ n. 2 ^ 1 - 1 - n) e ∙ not_bit p

module _ (R : Relation) (coupling : IsCoupling R) where
  -- CF alone
  carry_made : (e : Expr) (carry : Bool) (s : Machine) (t : State) → value_of (scene_of t) e ≡ from_bool carry → R s t
      → list_all sets_scratch (carry_taking e) ≡ true → R (with_carry carry s) (execute (carry_taking e) t)
  carry_made e carry s t is rel ok =
      let h = coupling.flags s t rel in
      worked_on R coupling (carry_taking e) s t (record s.flags { cf = carry }) ok
      (record { carry = is; zero = h.zero; negative = h.negative; overflow = h.overflow }) rel

  pub counted : (s : Machine) (t : State) → R s t
      → R (with_word_in s Cx ((word_in s Cx + 65535) % 65536)) (execute counting t)
  counted s t rel =
      let lowering = result_taking word_width (at_width SubOp word_width (word_of Cx) (number word_width 1)) in
      let u = execute lowering t in
      let h = coupling.flags s t rel in
      let one : R s u = worked_on R coupling lowering s t s.flags refl
      (record { carry = h.carry; zero = h.zero; negative = h.negative; overflow = h.overflow }) rel in
      let held : u.running.values (Temp 5) ≡ (word_in s Cx + 65535) % 65536 =
      ap (λ (f : Values). f (Temp 5)) (sets_values R coupling lowering s t refl rel)
      ∙ ap (λ n. (n + 65536 - 1) % 65536) (register_value R coupling s t (Word Cx) refl rel)
      ∙ lowered_is (word_in s Cx) in
      let small : u.running.values (Temp 5) < 65536 = held_below R coupling s u word_width (Temp 5) refl one in
      subst (R (with_word_in s Cx ((word_in s Cx + 65535) % 65536)))
      (sym (execute-append lowering (word_taking Cx 0 (result word_width)) t))
      (register_taken R coupling s u Cx 0 5 ((word_in s Cx + 65535) % 65536) refl
      (sym held ∙ word_bytes (u.running.values (Temp 5)) small) one)

  looped : (also : Bool) (target : ℕ) (s : Machine) (t : State) → R s t
      → R (loop_step also target s) (execute counting t)
  looped also target s t rel = coupling.anywhere _ _ _ (counted s t rel)

  pub registers_stand : RegistersStand R
  registers_stand = record { read = register_read R coupling; written = register_written R coupling }

module _ (R After : Relation) (coupling : IsCoupling R) (after : IsCoupling After) where
  unary_case : (operation : Unary) (a : Operand) (cpu : Cpu) (number : Option ℕ) (at : ℕ) (p q : OperandPlace) (s :
      Machine)
      (t : State) → is_division operation ≡ false → IsRead R s a p
      → IsWrittenIf (stores_back operation) R After s a p → R s t
      → After (op_step cpu (UnaryOp operation a) at s) (execute (op_stmts cpu (UnaryOp operation a) number p q) t)
  unary_case Inc a cpu number at p q s t undivided read written rel =
      inc_performed R After coupling a p s t read written rel
  unary_case Dec a cpu number at p q s t undivided read written rel =
      dec_performed R After coupling a p s t read written rel
  unary_case Neg a cpu number at p q s t undivided read written rel =
      neg_performed R After coupling a p s t read written rel
  unary_case Not a cpu number at p q s t undivided read written rel =
      not_performed R After coupling a p s t read written rel
  unary_case Mul a cpu number at p q s t undivided read follows rel =
      follows _ _ (mul_performed R coupling a p s t read rel)
  unary_case Imul a cpu number at p q s t undivided read follows rel =
      follows _ _ (imul_performed R coupling a p s t read rel)
  unary_case Div a cpu number at p q s t undivided read follows rel = absurd (true≢false undivided)
  unary_case Idiv a cpu number at p q s t undivided read follows rel = absurd (true≢false undivided)

  plain_case : (operation : Plain) (cpu : Cpu) (number : Option ℕ) (at : ℕ) (p q : OperandPlace) (s : Machine) (t :
      State)
      → is_xlat operation ≡ false → Follows R After → R s t
      → After (op_step cpu (PlainOp operation) at s) (execute (op_stmts cpu (PlainOp operation) number p q) t)
  plain_case Nop cpu number at p q s t undivided follows rel = follows _ _ rel
  plain_case Cbw cpu number at p q s t undivided follows rel = follows _ _ (cbw_performed R coupling s t rel)
  plain_case Cwd cpu number at p q s t undivided follows rel = follows _ _ (cwd_performed R coupling s t rel)
  plain_case Xlat cpu number at p q s t undivided follows rel = absurd (true≢false undivided)
  plain_case Clc cpu number at p q s t undivided follows rel =
      follows _ _ (carry_made R coupling (bit 0) false s t refl rel refl)
  plain_case Stc cpu number at p q s t undivided follows rel =
      follows _ _ (carry_made R coupling (bit 1) true s t refl rel refl)
  plain_case Cmc cpu number at p q s t undivided follows rel =
      follows _ _ (carry_made R coupling (negated (flag Cf)) (not s.flags.cf) s t
      (complement_bit (t.running.values (Flag Cf)) s.flags.cf (coupling.flags s t rel).carry) rel refl)
  plain_case Cli cpu number at p q s t undivided follows rel = follows _ _ rel
  plain_case Sti cpu number at p q s t undivided follows rel = follows _ _ rel
  plain_case Cld cpu number at p q s t undivided follows rel = follows _ _ rel

  -- where the operation makes 0 of its operands, that moves there
  alu_case : (operation : Alu) (a b : Operand) (cpu : Cpu) (number : Option ℕ) (at : ℕ) (p q : OperandPlace) (s :
      Machine)
      (t : State) → AreOperands a b → IsRead R s a p → IsRead R s b q
      → IsWrittenIf (writes_operand operation) R After s a p → R s t
      → After (op_step cpu (AluOp operation a b) at s) (execute (op_stmts cpu (AluOp operation a b) number p q) t)
  alu_case operation a b cpu number at p q s t are first second written rel = go (is_zeroing operation a b) refl
    where
      go : (zero : Bool) → is_zeroing operation a b ≡ zero
          → After (op_step cpu (AluOp operation a b) at s)
          (execute (if zero then zeroing (operand_width a) p else alu_stmts operation (operand_width a) p q) t)
      go true is =
          zero_performed R After coupling after operation a b p s t are.first is
          (subst (λ (writes : Bool). IsWrittenIf writes R After s a p) (zeroing_writes operation a b is) written) rel
      go false is = alu_performed R After coupling operation a b p q s t are first second written rel

  pub performed : OperationsArePerformed R After
  performed cpu (AluOp operation a b) number at s t p q ok stands rel =
      alu_case operation a b cpu number at p q s t ok stands.0 stands.1 stands.2 rel
  performed cpu (UnaryOp operation a) number at s t p q ok stands rel =
      unary_case operation a cpu number at p q s t stands.0 stands.1 stands.2 rel
  performed cpu (ShiftOp operation a count) number at s t p q ok stands rel =
      shift_performed R After coupling cpu operation a p count s t ok stands.0 stands.1 rel
  performed cpu (Mov to from) number at s t p q ok stands rel =
      mov_performed R After coupling after to from s t ok rel p q stands.0 stands.1 stands.2
  performed cpu (Xchg a b) number at s t p q ok stands rel =
      subst (λ r. After (op_step cpu (Xchg a b) at s) (execute (op_stmts cpu (Xchg a b) number p r) t)) (sym stands.3)
      (xchg_performed R After coupling after a b p s t ok stands.2 stands.0 stands.1 rel)
  performed cpu (Imul3 r a constant) number at s t p q ok stands rel =
      stands.2 _ _ (triple_performed R coupling r a p constant s t stands.1 ok stands.0 rel)
  performed cpu (PlainOp operation) number at s t p q ok stands rel =
      plain_case operation cpu number at p q s t stands.0 stands.1 rel
  performed cpu (Jump target) number at s t p q ok follows rel = follows _ _ (coupling.anywhere s t _ rel)
  performed cpu (Branch condition target) number at s t p q ok follows rel = follows _ _ (coupling.anywhere s t _ rel)
  performed cpu (Loop target) number at s t p q ok follows rel = follows _ _ (looped R coupling true target s t rel)
  performed cpu (LoopE target) number at s t p q ok follows rel =
      follows _ _ (looped R coupling s.flags.zf target s t rel)
  performed cpu (LoopNe target) number at s t p q ok follows rel =
      follows _ _ (looped R coupling (not s.flags.zf) target s t rel)
  performed cpu (Jcxz target) number at s t p q ok follows rel = follows _ _ (coupling.anywhere s t _ rel)
  performed cpu Int21 number at s t p q ok stands rel = absurd stands
  performed cpu (Lea r ea) number at s t p q ok stands rel = absurd stands
  performed cpu (Push a) number at s t p q ok stands rel = absurd stands
  performed cpu (Pop a) number at s t p q ok stands rel = absurd stands
  performed cpu (Enter count) number at s t p q ok stands rel = absurd stands
  performed cpu Leave number at s t p q ok stands rel = absurd stands
  performed cpu (Table r offset) number at s t p q ok stands rel = absurd stands
  performed cpu (Call target) number at s t p q ok stands rel = absurd stands
  performed cpu (Ret count) number at s t p q ok stands rel = absurd stands
