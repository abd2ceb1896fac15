-- Halves that an operation writes: what they are made of is alike in two states, so they are.
use Rattle.std.proofs.Common.{◌≡◌, inl, inr, ℕ, ◌+◌, ◌-◌, ◌*◌, ◌/◌, ◌%◌, ◌<◌, Bool, true, false, List, [], ◌∷◌, length, Option, Some, None, refl, sym, ap, ◌∙◌, subst, length-set}
use Rattle.std.proofs.lemmas.Bool.{eqb-true}
use Rattle.std.specs.Int.{from_bool}
use Rattle.std.specs.Prelude.{not, ◌&&◌, ◌||◌, slice_index, if◌then◌else◌, ◌==◌}
use Rattle.dcc_run.specs.End.{is_over}
use Rattle.dcc_num.specs.declared.Width.{Width}
use Rattle.dcc_num.specs.declared.Width.TheVariants.{Byte as byte_width, Word as word_width}
use Rattle.dcc_num.specs.declared.Reg.{Reg}
use Rattle.dcc_num.specs.declared.Reg.TheVariants.{Ax, Cx, Dx, Bx, Sp, Bp}
use Rattle.dcc_num.specs.declared.Half.{Half}
use Rattle.dcc_num.specs.declared.Half.TheVariants.{Low, High}
use Rattle.dcc_num.specs.declared.Flags.{Flags}
use Rattle.dcc_num.specs.declared.FlagName.TheVariants.{Cf}
use Rattle.dcc_num.specs.declared.dos.TheConstants.{GETCHE, PUTC, GETCH, PUTS, EXIT, END_OF_INPUT}
use Rattle.dcc_num.specs.Numbers.{limit_of, half_of as half_limit, sign_extension_of, no_flags}
use Rattle.dcc_num.specs.Sum.{sum_of, difference_of, negation_of, increment_of, decrement_of}
use Rattle.dcc_num.specs.Shift.{unless_zero, rol_of, ror_of, rcl_of, rcr_of, shl_of, shr_of, sar_of}
use Rattle.dcc_num.specs.Product.{product_of, signed_product_of, extension_of}
use Rattle.dcc_num.specs.Quotient.{division_of, signed_division_of}
use Rattle.dcc_machine.specs.declared.cpu.Cpu.{Cpu}
use Rattle.dcc_machine.specs.declared.segment.TheConstants.{DS}
use Rattle.dcc_machine.specs.declared.instr.Alu.{Alu as AluName}
use Rattle.dcc_machine.specs.declared.instr.Shift.{Shift as ShiftName}
use Rattle.dcc_machine.specs.declared.instr.Shift.TheVariants.{Rol, Ror, Rcl, Rcr, Shl, Shr, Sar}
use Rattle.dcc_machine.specs.declared.instr.Count.{Count}
use Rattle.dcc_machine.specs.declared.instr.Unary.{Unary as UnaryName}
use Rattle.dcc_machine.specs.declared.instr.Unary.TheVariants.{Inc, Dec, Neg, Not, Mul, Imul, Div, Idiv}
use Rattle.dcc_machine.specs.declared.instr.Plain.{Plain as PlainName}
use Rattle.dcc_machine.specs.declared.instr.Plain.TheVariants.{Nop, Cbw, Cwd, Xlat, Clc, Stc, Cmc, Cli, Sti, Cld}
use Rattle.dcc_machine.specs.declared.instr.Operand.{Operand}
use Rattle.dcc_machine.specs.declared.instr.Operand.TheVariants.{Word, Byte, Seg, Mem, Const}
use Rattle.dcc_machine.specs.declared.instr.Ea.{Ea}
use Rattle.dcc_machine.specs.declared.instr.Op.{Op}
use Rattle.dcc_machine.specs.declared.instr.Op.TheVariants.{Alu, Unary, Shift, Mov, Xchg, Lea, Imul3, Push, Pop, Enter, Leave, Plain, Jump, Branch, Loop, LoopE, LoopNe, Jcxz, Table, Call, Ret, Int21}
use Rattle.dcc_machine.specs.Machine.{State, word_in, with_word_in, half_of_word, data_segment, byte_in, operand_value, operand_width, with_operand}
use Rattle.dcc_machine.specs.Operations.{with_flags, with_result, accumulator_in, upper_in, with_product, with_division, count_in, shift_result, after_push, top_word, with_sp_raised, loop_step}
use Rattle.dcc_machine.specs.Dos.{dos_step, with_key, key_step}
use Rattle.dcc_machine.specs.Step.{op_step}
use Rattle.dcc_machine.specs.WellFormed.{IsOperation, AreOperands}
use Rattle.dcc_machine.specs.Writes.{is_same_register, is_same_half, is_half_of, writes_operand, is_in_pair, plain_writes_half, writes_half}
use Rattle.dcc_machine.specs.Wanted.{Location, half_of, flag_of, is_zeroing, is_part, is_half, is_in_address, is_read, is_flag, is_al, is_accumulator, takes_carry, is_cl, is_through_carry, is_in_cl, is_by_cl, moves, plain_makes, makes, is_dividend, gives_byte}
use Rattle.dcc_machine.specs.StateForm.{IsState}
use Rattle.dcc_machine.specs.LocationLaws.{half_in}
use Rattle.dcc_machine.specs.AlikeLaws.{AgreeBeside, IsCallNumber, divides_by, AreAlikeFor}
use Rattle.dcc_machine.proofs.OperationForms.{alu_result, alu_written, alu-form}
use Rattle.dcc_machine.proofs.ZeroingLaws.{zeroed-result}
use Rattle.dcc_machine.proofs.DosLaws.{calls-relate}
use Rattle.dcc_machine.proofs.StateKept.{value-fits, of_width, top-below}
use Rattle.dcc_machine.proofs.LocationKept.{word-taken, word-other, half-other, operand-half, operand-count}
use Rattle.dcc_machine.proofs.AlikeValues.{and-both, and-parts, or-first, or-second, or-parts, register-self, half-self, AgreeWhere, AreTwo, word-alike, offset-alike, byte-alike, value-alike, accumulator-alike, dividend-alike, count-alike, top-alike, alu-alike, taken-alike, written-alike, pair-alike}

-- an operand takes the result of each of two states
result-alike :
    (x : Operand) (result other : ℕ × Flags) (s t : State) (r : Reg) (half : Half) → result.0 ≡ other.0
    → length s.regs ≡ 8 → length t.regs ≡ 8 → is_half_of r half x ≡ true
    → half_in (with_result x result s) r half ≡ half_in (with_result x other t) r half
result-alike x result other s t r half same first second e =
    written-alike x result.0 (with_flags result.1 s) (with_flags other.1 t) r half first second e
    ∙ ap (λ v. half_in (with_operand (with_flags other.1 t) x v) r half) same

-- what both halves of one word are made of
pub all_of :
    (a : Bool) (test : Location → Bool) (s t : State) → a ≡ true → AgreeWhere (λ from. a && test from) s t
    → AgreeWhere test s t
all_of a test s t e agree from h = agree from (and-both a (test from) e h)

-- Operations on two operands.

-- what they read
abbrev pub alu_reads : AluName → Operand → Operand → Location → Bool
alu_reads operation a b from = is_read from a || (is_read from b || (takes_carry operation && is_flag Cf from))

pub alu-results :
    (operation : AluName) (a b : Operand) (s t : State) → AgreeBeside s t → AgreeWhere (alu_reads operation a b) s t
    → alu_result operation (operand_width a) (operand_value s a) (operand_value s b) s.flags.cf
    ≡ alu_result operation (operand_width a) (operand_value t a) (operand_value t b) t.flags.cf
alu-results operation a b s t beside agree =
    let first = value-alike s t a beside (λ from e. agree from (or-first (is_read from a) _ e)) in
    let second =
    value-alike s t b beside (λ from e. agree from (or-second (is_read from a) _ (or-first (is_read from b) _ e))) in
    alu-alike operation (operand_width a) _ _ _ _ s.flags.cf t.flags.cf first second (λ takes.
    agree (flag_of Cf)
    (or-second (is_read (flag_of Cf) a) _
    (or-second (is_read (flag_of Cf) b) _ (and-both (takes_carry operation) true takes refl))))

-- the result, where it is made of what they read, or of nothing
pub alu-made :
    (operation : AluName) (a b : Operand) (s t : State) (written : Bool) → AgreeBeside s t → written ≡ true
    → AgreeWhere (λ from. not (is_zeroing operation a b) && (written && alu_reads operation a b from)) s t
    → alu_result operation (operand_width a) (operand_value s a) (operand_value s b) s.flags.cf
    ≡ alu_result operation (operand_width a) (operand_value t a) (operand_value t b) t.flags.cf
alu-made operation a b s t written beside e made = go (is_zeroing operation a b) refl
  where
    go :
        (zeroing : Bool) → is_zeroing operation a b ≡ zeroing
        → alu_result operation (operand_width a) (operand_value s a) (operand_value s b) s.flags.cf
        ≡ alu_result operation (operand_width a) (operand_value t a) (operand_value t b) t.flags.cf
    go true is =
        zeroed-result operation a b (operand_width a) s s.flags.cf is
        ∙ sym (zeroed-result operation a b (operand_width a) t t.flags.cf is)
    go false is =
        alu-results operation a b s t beside
        (all_of written (alu_reads operation a b) s t e
        (all_of (not (is_zeroing operation a b)) (λ from. written && alu_reads operation a b from) s t (ap not is) made))

alu-half :
    (cpu : Cpu) (operation : AluName) (a b : Operand) (at : ℕ) (s t : State) (r : Reg) (half : Half) → AreTwo s t
    → writes_half (Alu operation a b) r half ≡ true → AgreeWhere (makes (Alu operation a b) (half_of r half)) s t
    → half_in (op_step cpu (Alu operation a b) at s) r half ≡ half_in (op_step cpu (Alu operation a b) at t) r half
alu-half cpu operation a b at s t r half two e made =
    let w = operand_width a in
    let parts = and-parts (writes_operand operation) (is_half_of r half a) e in
    let first = alu_result operation w (operand_value s a) (operand_value s b) s.flags.cf in
    let second = alu_result operation w (operand_value t a) (operand_value t b) t.flags.cf in
    let same : first ≡ second =
    alu-made operation a b s t (writes_operand operation && is_half_of r half a) two.beside e made in
    ap (λ u. half_in u r half) (alu-form operation w a (operand_value s a) (operand_value s b) s)
    ∙ ap (λ so. half_in (alu_written so a first s) r half) parts.0
    ∙ result-alike a first second s t r half (ap (λ (x : ℕ × Flags). x.0) same) two.first.registers.count
    two.second.registers.count parts.1
    ∙ sym (ap (λ so. half_in (alu_written so a second t) r half) parts.0)
    ∙ sym (ap (λ u. half_in u r half) (alu-form operation w a (operand_value t a) (operand_value t b) t))

-- Operations on one operand.

pub increment-alike : (w : Width) (a b : ℕ) (f g : Flags) → a ≡ b → (increment_of w a f).0 ≡ (increment_of w b g).0
unfolding increment_of
increment-alike w a b f g same = ap (λ n. (sum_of w n 1 false).0) same

pub decrement-alike : (w : Width) (a b : ℕ) (f g : Flags) → a ≡ b → (decrement_of w a f).0 ≡ (decrement_of w b g).0
unfolding decrement_of
decrement-alike w a b f g same = ap (λ n. (difference_of w n 1 false).0) same

-- one division in both states, without a fault
pub division-alike :
    (w : Width) (at : ℕ) (division : Option (ℕ × ℕ)) (s t : State) (r : Reg) (half : Half)
    → length s.regs ≡ 8 → length t.regs ≡ 8 → is_in_pair w r ≡ true
    → is_over (with_division w at division s).end ≡ false
    → half_in (with_division w at division s) r half ≡ half_in (with_division w at division t) r half
division-alike w at None s t r half first second e goes = cc
division-alike w at (Some division) s t r half first second e goes =
    pair-alike w (division.0, division.1, no_flags) s t r half first second e

-- what a product reads
pub factors-alike :
    (a : Operand) (s t : State) → AgreeBeside s t
    → AgreeWhere (λ from. is_accumulator (operand_width a) from || is_read from a) s t
    → (accumulator_in (operand_width a) s ≡ accumulator_in (operand_width a) t) ×
    (operand_value s a ≡ operand_value t a)
factors-alike a s t beside agree = (
  accumulator-alike (operand_width a) s t (λ from e. agree from (or-first (is_accumulator (operand_width a) from) _ e)),
  value-alike s t a beside (λ from e. agree from (or-second (is_accumulator (operand_width a) from) _ e)),
)

record AreDividedAlike (a : Operand) (s t : State) : Type 0 where
  low : accumulator_in (operand_width a) s ≡ accumulator_in (operand_width a) t
  high : upper_in (operand_width a) s ≡ upper_in (operand_width a) t
  by : operand_value s a ≡ operand_value t a

-- what a division uses
divided-alike :
    (a : Operand) (s t : State) → AgreeBeside s t
    → AgreeWhere (λ from. is_dividend (operand_width a) from || is_read from a) s t → AreDividedAlike a s t
divided-alike a s t beside agree =
    let dividend =
    dividend-alike (operand_width a) s t (λ from e. agree from (or-first (is_dividend (operand_width a) from) _ e)) in
    record {
      low = dividend.0;
      high = dividend.1;
      by = value-alike s t a beside (λ from e. agree from (or-second (is_dividend (operand_width a) from) _ e));
    }

-- where two states agree in what a division uses, the division, signed or not, gives the same
pub same-division :
    {Division : Type 0} (divide : Width → ℕ → ℕ → ℕ → Division) (a : Operand) (s t : State) → AgreeBeside s t
    → AgreeWhere (λ from. is_dividend (operand_width a) from || is_read from a) s t
    → divide (operand_width a) (upper_in (operand_width a) s) (accumulator_in (operand_width a) s) (operand_value s a)
    ≡ divide (operand_width a) (upper_in (operand_width a) t) (accumulator_in (operand_width a) t) (operand_value t a)
same-division divide a s t beside agree =
    let w = operand_width a in
    let alike = divided-alike a s t beside agree in
    ap (λ n. divide w n (accumulator_in w s) (operand_value s a)) alike.high
    ∙ ap (λ n. divide w (upper_in w t) n (operand_value s a)) alike.low
    ∙ ap (divide w (upper_in w t) (accumulator_in w t)) alike.by

unary-half :
    (cpu : Cpu) (operation : UnaryName) (a : Operand) (at : ℕ) (s t : State) (r : Reg) (half : Half) → AreTwo s t
    → writes_half (Unary operation a) r half ≡ true → AgreeWhere (makes (Unary operation a) (half_of r half)) s t
    → AgreeWhere (divides_by (Unary operation a)) s t
    → is_over (op_step cpu (Unary operation a) at s).end ≡ false
    → half_in (op_step cpu (Unary operation a) at s) r half ≡ half_in (op_step cpu (Unary operation a) at t) r half
unary-half cpu Inc a at s t r half two e made divided goes =
    let value = value-alike s t a two.beside (all_of (is_half_of r half a) (λ from. is_read from a) s t e made) in
    result-alike a _ _ s t r half (increment-alike (operand_width a) _ _ s.flags t.flags value)
    two.first.registers.count two.second.registers.count e
unary-half cpu Dec a at s t r half two e made divided goes =
    let value = value-alike s t a two.beside (all_of (is_half_of r half a) (λ from. is_read from a) s t e made) in
    result-alike a _ _ s t r half (decrement-alike (operand_width a) _ _ s.flags t.flags value)
    two.first.registers.count two.second.registers.count e
unary-half cpu Neg a at s t r half two e made divided goes =
    let value = value-alike s t a two.beside (all_of (is_half_of r half a) (λ from. is_read from a) s t e made) in
    result-alike a _ _ s t r half (ap (λ n. (negation_of (operand_width a) n).0) value)
    two.first.registers.count two.second.registers.count e
unary-half cpu Not a at s t r half two e made divided goes =
    let value = value-alike s t a two.beside (all_of (is_half_of r half a) (λ from. is_read from a) s t e made) in
    written-alike a _ s t r half two.first.registers.count two.second.registers.count e
    ∙ ap (λ n. half_in (with_operand t a (limit_of (operand_width a) - 1 - n)) r half) value
unary-half cpu Mul a at s t r half two e made divided goes =
    let w = operand_width a in
    let factors =
    factors-alike a s t two.beside
    (all_of (is_in_pair w r) (λ from. is_accumulator w from || is_read from a) s t e made) in
    let same : product_of w (accumulator_in w s) (operand_value s a) ≡ product_of w (accumulator_in w t)
    (operand_value t a) =
    ap (λ n. product_of w n (operand_value s a)) factors.0 ∙ ap (product_of w (accumulator_in w t)) factors.1 in
    pair-alike w _ s t r half two.first.registers.count two.second.registers.count e
    ∙ ap (λ p. half_in (with_product w p t) r half) same
unary-half cpu Imul a at s t r half two e made divided goes =
    let w = operand_width a in
    let factors =
    factors-alike a s t two.beside
    (all_of (is_in_pair w r) (λ from. is_accumulator w from || is_read from a) s t e made) in
    let same :
    signed_product_of w (accumulator_in w s) (operand_value s a) ≡ signed_product_of w (accumulator_in w t)
    (operand_value t a) =
    ap (λ n. signed_product_of w n (operand_value s a)) factors.0
    ∙ ap (signed_product_of w (accumulator_in w t)) factors.1 in
    pair-alike w _ s t r half two.first.registers.count two.second.registers.count e
    ∙ ap (λ p. half_in (with_product w p t) r half) same
unary-half cpu Div a at s t r half two e made divided goes =
    division-alike (operand_width a) at _ s t r half two.first.registers.count two.second.registers.count e goes
    ∙ ap (λ d. half_in (with_division (operand_width a) at d t) r half)
    (same-division division_of a s t two.beside divided)
unary-half cpu Idiv a at s t r half two e made divided goes =
    division-alike (operand_width a) at _ s t r half two.first.registers.count two.second.registers.count e goes
    ∙ ap (λ d. half_in (with_division (operand_width a) at d t) r half)
    (same-division signed_division_of a s t two.beside divided)

-- Shifts and rotates.

unless-first :
    (count a r : ℕ) (was other flags flagged : Flags)
    → (unless_zero count (a, was) (r, flags)).0 ≡ (unless_zero count (a, other) (r, flagged)).0
unless-first count a r was other flags flagged =
    elim (count == 0) as (λ b.
    (if b then (let x : ℕ × Flags = (a, was) in x) else (r, flags)).0
    ≡ (if b then (let x : ℕ × Flags = (a, other) in x) else (r, flagged)).0) [
      | true ↦ refl
      | false ↦ refl
    ]

-- a result is made of the value and the count, or for RCL and RCR of the value and the carry
pub shift-value :
    (operation : ShiftName) (w : Width) (a b n m : ℕ) (was other : Flags) → a ≡ b
    → (is_through_carry operation ≡ false → n ≡ m)
    → (is_through_carry operation ≡ true → was.cf ≡ other.cf)
    → (shift_result operation w a n was).0 ≡ (shift_result operation w b m other).0
unfolding rol_of ror_of rcl_of rcr_of shl_of shr_of sar_of
shift-value Rol w a b n m was other p q c =
    ap (λ k. (rol_of w k n was).0) p
    ∙ ap (λ k. (rol_of w b k was).0) (q refl)
    ∙ unless-first m b _ was other _ _
shift-value Ror w a b n m was other p q c =
    ap (λ k. (ror_of w k n was).0) p
    ∙ ap (λ k. (ror_of w b k was).0) (q refl)
    ∙ unless-first m b _ was other _ _
shift-value Rcl w a b n m was other p q c =
    ap (λ k. (2 * k + from_bool was.cf) % limit_of w) p ∙ ap (λ k. (2 * b + from_bool k) % limit_of w) (c refl)
shift-value Rcr w a b n m was other p q c =
    ap (λ k. k / 2 + from_bool was.cf * half_limit w) p ∙ ap (λ k. b / 2 + from_bool k * half_limit w) (c refl)
shift-value Shl w a b n m was other p q c =
    ap (λ k. (shl_of w k n was).0) p ∙ ap (λ k. (shl_of w b k was).0) (q refl) ∙ unless-first m b _ was other _ _
shift-value Shr w a b n m was other p q c =
    ap (λ k. (shr_of w k n was).0) p ∙ ap (λ k. (shr_of w b k was).0) (q refl) ∙ unless-first m b _ was other _ _
shift-value Sar w a b n m was other p q c =
    ap (λ k. (sar_of w k n was).0) p ∙ ap (λ k. (sar_of w b k was).0) (q refl) ∙ unless-first m b _ was other _ _

-- what a shift or rotate reads for its result
abbrev pub shift_value_reads : ShiftName → Operand → Count → Location → Bool
shift_value_reads operation a count from =
    is_read from a || ((is_by_cl operation count && is_cl from) || (is_through_carry operation && is_flag Cf from))

pub shift-results :
    (cpu : Cpu) (operation : ShiftName) (a : Operand) (count : Count) (s t : State) → AgreeBeside s t
    → AgreeWhere (shift_value_reads operation a count) s t
    → (shift_result operation (operand_width a) (operand_value s a) (count_in cpu count s) s.flags).0
    ≡ (shift_result operation (operand_width a) (operand_value t a) (count_in cpu count t) t.flags).0
shift-results cpu operation a count s t beside agree =
    let value = value-alike s t a beside (λ from e. agree from (or-first (is_read from a) _ e)) in
    let counted = λ (still : is_through_carry operation ≡ false).
    count-alike cpu count s t (λ cl.
    agree (half_of Cx Low)
    (or-second (is_read (half_of Cx Low) a) _
    (or-first (is_by_cl operation count && true) _
    (and-both (is_by_cl operation count) true
    (and-both (is_in_cl count) (not (is_through_carry operation)) cl (ap not still)) refl)))) in
    let carried = λ (turns : is_through_carry operation ≡ true).
    agree (flag_of Cf)
    (or-second (is_read (flag_of Cf) a) _
    (or-second (is_by_cl operation count && false) _ (and-both (is_through_carry operation) true turns refl))) in
    shift-value operation (operand_width a) _ _ _ _ s.flags t.flags value counted carried

shift-half :
    (cpu : Cpu) (operation : ShiftName) (a : Operand) (count : Count) (at : ℕ) (s t : State) (r : Reg) (half : Half)
    → AreTwo s t → is_half_of r half a ≡ true → AgreeWhere (makes (Shift operation a count) (half_of r half)) s t
    → half_in (op_step cpu (Shift operation a count) at s) r half ≡ half_in
    (op_step cpu (Shift operation a count) at t) r half
shift-half cpu operation a count at s t r half two e made =
    let same =
    shift-results cpu operation a count s t two.beside
    (all_of (is_half_of r half a) (shift_value_reads operation a count) s t e made) in
    result-alike a _ _ s t r half same two.first.registers.count two.second.registers.count e

-- Moves.

part-none : (from : Location) (w : Width) (ea : Ea) → is_part from (Mem w ea) ≡ true → ⊥
part-none (half_of r half) w ea e = cc
part-none (flag_of flag) w ea e = cc

-- a memory operand by its address
pub memory-alike :
    (w : Width) (ea : Ea) (s t : State) → AgreeBeside s t → AgreeWhere (λ from. is_in_address from ea) s t
    → operand_value s (Mem w ea) ≡ operand_value t (Mem w ea)
memory-alike w ea s t beside agree =
    value-alike s t (Mem w ea) beside (λ from e.
    elim (or-parts (is_part from (Mem w ea)) (is_in_address from ea) e) [
      | inl part ↦ absurd (part-none from w ea part)
      | inr address ↦ agree from address
    ])

pub same-moved :
    (x : Operand) (v w : ℕ) (s t : State) (r : Reg) (half : Half) → v ≡ w → length s.regs ≡ 8 → length t.regs ≡ 8
    → is_half_of r half x ≡ true → half_in (with_operand s x v) r half ≡ half_in (with_operand t x w) r half
same-moved x v w s t r half same first second e =
    written-alike x v s t r half first second e ∙ ap (λ n. half_in (with_operand t x n) r half) same

-- a half that an operand takes from another one, whose value is that in s and t
moved-alike :
    (x from : Operand) (s t u v : State) (r : Reg)
    (half : Half) → AgreeBeside s t → operand_width x ≡ operand_width from
    → AgreeWhere
    (moves x from (half_of r half)) s t → length u.regs ≡ 8 → length v.regs ≡ 8 → is_half_of r half x ≡ true
    → half_in (with_operand u x (operand_value s from)) r half ≡ half_in
    (with_operand v x (operand_value t from)) r half
moved-alike (Word q) (Word p) s t u v r half beside widths agree first second e =
    taken-alike u v q r half (word_in s p) (word_in t p) first second e
    (agree (half_of p half)
    (and-both (is_same_register r q) (is_same_register p p && is_same_half half half) e
    (and-both (is_same_register p p) (is_same_half half half) (register-self p) (half-self half))))
moved-alike (Word q) (Byte p place) s t u v r half beside widths agree first second e = cc
moved-alike (Word q) (Seg number) s t u v r half beside widths agree first second e =
    same-moved (Word q) _ _ u v r half (ap (λ (l : List ℕ). slice_index l number) beside.outside.segs) first second e
moved-alike (Word q) (Mem byte_width ea) s t u v r half beside widths agree first second e = cc
moved-alike (Word q) (Mem word_width ea) s t u v r half beside widths agree first second e =
    same-moved (Word q) _ _ u v r half
    (memory-alike word_width ea s t beside
    (all_of (is_same_register r q) (λ from. is_in_address from ea) s t e agree)) first second e
moved-alike (Word q) (Const w constant) s t u v r half beside widths agree first second e =
    same-moved (Word q) constant constant u v r half refl first second e
moved-alike (Byte q place) (Word p) s t u v r half beside widths agree first second e = cc
moved-alike (Byte q place) (Byte p other) s t u v r half beside widths agree first second e =
    same-moved (Byte q place) _ _ u v r half
    (agree (half_of p other)
    (and-both (is_same_register r q && is_same_half half place) (is_same_register p p && is_same_half other other) e
    (and-both (is_same_register p p) (is_same_half other other) (register-self p) (half-self other)))) first second e
moved-alike (Byte q place) (Seg number) s t u v r half beside widths agree first second e = cc
moved-alike (Byte q place) (Mem byte_width ea) s t u v r half beside widths agree first second e =
    same-moved (Byte q place) _ _ u v r half
    (memory-alike byte_width ea s t beside
    (all_of (is_same_register r q && is_same_half half place)
    (λ from. is_in_address from ea) s t e agree)) first second e
moved-alike (Byte q place) (Mem word_width ea) s t u v r half beside widths agree first second e = cc
moved-alike (Byte q place) (Const w constant) s t u v r half beside widths agree first second e =
    same-moved (Byte q place) constant constant u v r half refl first second e
moved-alike (Seg number) from s t u v r half beside widths agree first second e = cc
moved-alike (Mem w ea) from s t u v r half beside widths agree first second e = cc
moved-alike (Const w constant) from s t u v r half beside widths agree first second e = cc

xchg-half :
    (last :
    Bool) (cpu : Cpu) (a b : Operand) (at : ℕ) (s t : State) (r : Reg) (half : Half) → AreTwo s t → AreOperands a b
    → is_half_of r half b ≡ last → writes_half (Xchg a b) r half ≡ true
    → AgreeWhere (makes (Xchg a b) (half_of r half)) s t
    → half_in (op_step cpu (Xchg a b) at s) r half ≡ half_in (op_step cpu (Xchg a b) at t) r half
xchg-half true cpu a b at s t r half two good is e made =
    let u = with_operand s a (operand_value s b) in
    let v = with_operand t a (operand_value t b) in
    moved-alike b a s t u v r half two.beside (sym good.widths)
    (λ from h. made from (or-second (moves a b (half_of r half) from) (moves b a (half_of r half) from) h))
    (operand-count a (operand_value s b) s ∙ two.first.registers.count)
    (operand-count a (operand_value t b) t ∙ two.second.registers.count) is
xchg-half false cpu a b at s t r half two good is e made =
    let u = with_operand s a (operand_value s b) in
    let v = with_operand t a (operand_value t b) in
    let part : is_half_of r half a ≡ true =
    elim (or-parts (is_half_of r half a) (is_half_of r half b) e) [ inl same ↦ same | inr same ↦ cc ] in
    operand-half b (operand_value s a) u r half (operand-count a (operand_value s b) s ∙ two.first.registers.count)
    (of_width (operand_width a) (operand_width b) _ good.widths (value-fits s a good.first two.first)) is
    ∙ moved-alike a b s t s t r half two.beside good.widths
    (λ from h. made from (or-first (moves a b (half_of r half) from) (moves b a (half_of r half) from) h))
    two.first.registers.count two.second.registers.count part
    ∙ sym (operand-half b (operand_value t a) v r half
    (operand-count a (operand_value t b) t ∙ two.second.registers.count)
    (of_width (operand_width a) (operand_width b) _ good.widths (value-fits t a good.first two.second)) is)

-- The stack.

-- SP has risen or fallen
pub raised-alike :
    (count : ℕ) (s t : State) (r : Reg) (half : Half) → AreTwo s t → is_same_register r Sp ≡ true
    → half_in (with_sp_raised count s) r half ≡ half_in (with_sp_raised count t) r half
raised-alike count s t r half two e =
    taken-alike s t Sp r half _ _ two.first.registers.count two.second.registers.count e
    (ap (λ n. half_of_word half ((n + count) % 65536)) two.beside.sp)

pop-half :
    (last : Bool) (cpu : Cpu) (a : Operand) (at : ℕ) (s t : State) (r : Reg) (half : Half) → AreTwo s t
    → operand_width a ≡ word_width → is_half_of r half a ≡ last → writes_half (Pop a) r half ≡ true
    → half_in (op_step cpu (Pop a) at s) r half ≡ half_in (op_step cpu (Pop a) at t) r half
pop-half true cpu a at s t r half two width is e =
    same-moved a _ _ (with_sp_raised 2 s) (with_sp_raised 2 t) r half
    (top-alike s t two.beside.outside.segs two.beside.memory two.beside.sp)
    (length-set s.regs 4 _ ∙ two.first.registers.count) (length-set t.regs 4 _ ∙ two.second.registers.count) is
pop-half false cpu a at s t r half two width is e =
    let part : is_same_register r Sp ≡ true =
    elim (or-parts (is_same_register r Sp) (is_half_of r half a) e) [ inl same ↦ same | inr same ↦ cc ] in
    let fits = λ (u : State) (form : IsState u). subst (λ w. top_word u < limit_of w) (sym width) (top-below u form) in
    operand-half a (top_word s) (with_sp_raised 2 s) r half (length-set s.regs 4 _ ∙ two.first.registers.count)
    (fits s two.first) is
    ∙ raised-alike 2 s t r half two part
    ∙ sym (operand-half a (top_word t) (with_sp_raised 2 t) r half (length-set t.regs 4 _ ∙ two.second.registers.count)
    (fits t two.second) is)

-- SP after a push
pub fallen-alike :
    (word other : ℕ) (s t : State) → AreTwo s t → word_in (after_push word s) Sp ≡ word_in (after_push other t) Sp
fallen-alike word other s t two =
    word-taken s Sp Sp ((word_in s Sp + 65534) % 65536) two.first.registers.count refl
    ∙ ap (λ n. (n + 65534) % 65536) two.beside.sp
    ∙ sym (word-taken t Sp Sp ((word_in t Sp + 65534) % 65536) two.second.registers.count refl)

enter-half :
    (last : Bool) (cpu : Cpu) (size at : ℕ) (s t : State) (r : Reg) (half : Half) → AreTwo s t
    → is_same_register r Sp ≡ last → writes_half (Enter size) r half ≡ true
    → half_in (op_step cpu (Enter size) at s) r half ≡ half_in (op_step cpu (Enter size) at t) r half
enter-half true cpu size at s t r half two is e =
    let a = after_push (word_in s Bp) s in
    let b = after_push (word_in t Bp) t in
    let u = with_word_in a Bp (word_in a Sp) in
    let v = with_word_in b Bp (word_in b Sp) in
    let fallen = fallen-alike (word_in s Bp) (word_in t Bp) s t two in
    let sp : word_in u Sp ≡ word_in v Sp =
    word-other a Bp Sp (word_in a Sp) refl ∙ fallen ∙ sym (word-other b Bp Sp (word_in b Sp) refl) in
    taken-alike u v Sp r half _ _
    (length-set a.regs 5 _ ∙ length-set s.regs 4 _ ∙ two.first.registers.count)
    (length-set b.regs 5 _ ∙ length-set t.regs 4 _ ∙ two.second.registers.count) is
    (ap (λ n. half_of_word half ((n + (65536 - size)) % 65536)) sp)
enter-half false cpu size at s t r half two is e =
    let a = after_push (word_in s Bp) s in
    let b = after_push (word_in t Bp) t in
    let u = with_word_in a Bp (word_in a Sp) in
    let v = with_word_in b Bp (word_in b Sp) in
    let part : is_same_register r Bp ≡ true =
    elim (or-parts (is_same_register r Sp) (is_same_register r Bp) e) [ inl same ↦ cc | inr same ↦ same ] in
    half-other u Sp r _ half is
    ∙ taken-alike a b Bp r half (word_in a Sp) (word_in b Sp)
    (length-set s.regs 4 _ ∙ two.first.registers.count) (length-set t.regs 4 _ ∙ two.second.registers.count) part
    (ap (half_of_word half) (fallen-alike (word_in s Bp) (word_in t Bp) s t two))
    ∙ sym (half-other v Sp r _ half is)

leave-half :
    (last : Bool) (cpu : Cpu) (at : ℕ) (s t : State) (r : Reg) (half : Half) → AreTwo s t
    → is_same_register r Bp ≡ last → writes_half Leave r half ≡ true
    → half_in (op_step cpu Leave at s) r half ≡ half_in (op_step cpu Leave at t) r half
leave-half last cpu at s t r half two is e = go last is
  where
    a : State
    a = with_word_in s Sp (word_in s Bp)

    b : State
    b = with_word_in t Sp (word_in t Bp)

    first : length a.regs ≡ 8
    first = length-set s.regs 4 _ ∙ two.first.registers.count

    second : length b.regs ≡ 8
    second = length-set t.regs 4 _ ∙ two.second.registers.count

    sp : word_in a Sp ≡ word_in b Sp
    sp =
        word-taken s Sp Sp (word_in s Bp) two.first.registers.count refl
        ∙ two.beside.bp
        ∙ sym (word-taken t Sp Sp (word_in t Bp) two.second.registers.count refl)

    go :
        (so : Bool) → is_same_register r Bp ≡ so
        → half_in (op_step cpu Leave at s) r half ≡ half_in (op_step cpu Leave at t) r half
    go true same =
        taken-alike (with_sp_raised 2 a) (with_sp_raised 2 b) Bp r half (top_word a) (top_word b)
        (length-set a.regs 4 _ ∙ first) (length-set b.regs 4 _ ∙ second) same
        (ap (half_of_word half) (top-alike a b two.beside.outside.segs two.beside.memory sp))
    go false apart =
        let part : is_same_register r Sp ≡ true =
        elim (or-parts (is_same_register r Sp) (is_same_register r Bp) e) [ inl same ↦ same | inr same ↦ cc ] in
        half-other (with_sp_raised 2 a) Bp r (top_word a) half apart
        ∙ taken-alike a b Sp r half _ _ first second part (ap (λ n. half_of_word half ((n + 2) % 65536)) sp)
        ∙ sym (half-other (with_sp_raised 2 b) Bp r (top_word b) half apart)

-- a CALL's own step leaves the others
call-half :
    (so : Bool) (cpu : Cpu) (target at : ℕ) (s t : State) (r : Reg) (half : Half) → AreTwo s t
    → is_same_register r Sp ≡ so → half_in s r half ≡ half_in t r half
    → half_in (op_step cpu (Call target) at s) r half ≡ half_in (op_step cpu (Call target) at t) r half
call-half true cpu target at s t r half two is same = raised-alike 65534 s t r half two is
call-half false cpu target at s t r half two is same =
    half-other s Sp r _ half is ∙ same ∙ sym (half-other t Sp r _ half is)

-- Operations without operands.

plain-half-alike :
    (operation : PlainName) (cpu : Cpu) (at : ℕ) (s t : State) (r : Reg) (half : Half) → AreTwo s t
    → plain_writes_half operation r half ≡ true → AgreeWhere (plain_makes operation (half_of r half)) s t
    → half_in (op_step cpu (Plain operation) at s) r half ≡ half_in (op_step cpu (Plain operation) at t) r half
plain-half-alike Nop cpu at s t r half two e made = cc
plain-half-alike Cbw cpu at s t r half two e made =
    let parts = and-parts (is_same_register r Ax) (is_same_half half High) e in
    let al = made (half_of Ax Low) (and-both (is_same_register r Ax && is_same_half half High) true e refl) in
    taken-alike s t Ax r half _ _ two.first.registers.count two.second.registers.count parts.0
    (ap (λ n. half_of_word half (sign_extension_of n)) al)
plain-half-alike Cwd cpu at s t r half two e made =
    let ax = word-alike s t Ax (all_of (is_same_register r Dx) (λ from. is_half from Ax) s t e made) in
    taken-alike s t Dx r half _ _ two.first.registers.count two.second.registers.count e
    (ap (λ n. half_of_word half (extension_of word_width n)) ax)
plain-half-alike Xlat cpu at s t r half two e made =
    let reads =
    all_of (is_same_register r Ax && is_same_half half Low) (λ from. is_al from || is_half from Bx) s t e made in
    let al = reads (half_of Ax Low) refl in
    let bx = word-alike s t Bx (λ from h. reads from (or-second (is_al from) (is_half from Bx) h)) in
    let offset : (word_in s Bx + word_in s Ax % 256) % 65536 ≡ (word_in t Bx + word_in t Ax % 256) % 65536 =
    ap (λ n. (n + word_in s Ax % 256) % 65536) bx ∙ ap (λ n. (word_in t Bx + n) % 65536) al in
    let byte : byte_in s (data_segment s) ((word_in s Bx + word_in s Ax % 256) % 65536) ≡ byte_in t (data_segment t)
    ((word_in t Bx + word_in t Ax % 256) % 65536) =
    byte-alike s t (data_segment s) (data_segment t) _ _ two.beside.memory
    (ap (λ (l : List ℕ). slice_index l DS) two.beside.outside.segs) offset in
    same-moved (Byte Ax Low) _ _ s t r half byte two.first.registers.count two.second.registers.count e
plain-half-alike Clc cpu at s t r half two e made = cc
plain-half-alike Stc cpu at s t r half two e made = cc
plain-half-alike Cmc cpu at s t r half two e made = cc
plain-half-alike Cli cpu at s t r half two e made = cc
plain-half-alike Sti cpu at s t r half two e made = cc
plain-half-alike Cld cpu at s t r half two e made = cc

loop-half :
    (also other : Bool) (target : ℕ) (s t : State) (r : Reg) (half : Half) → AreTwo s t
    → is_same_register r Cx ≡ true → AgreeWhere (λ from. is_half (half_of r half) Cx && is_half from Cx) s t
    → half_in (loop_step also target s) r half ≡ half_in (loop_step other target t) r half
loop-half also other target s t r half two e made =
    let cx = word-alike s t Cx (all_of (is_same_register r Cx) (λ from. is_half from Cx) s t e made) in
    taken-alike s t Cx r half _ _ two.first.registers.count two.second.registers.count e
    (ap (λ n. half_of_word half ((n + 65535) % 65536)) cx)

-- DOS calls.

key-alike :
    (echo : Bool) (input : List ℕ) (s t : State) (r : Reg) (half : Half) → length s.regs ≡ 8 → length t.regs ≡ 8
    → (is_same_register r Ax && is_same_half half Low) ≡ true
    → half_in (with_key echo input s) r half ≡ half_in (with_key echo input t) r half
key-alike echo [] s t r half first second e = written-alike (Byte Ax Low) END_OF_INPUT s t r half first second e
key-alike echo (byte ∷ rest) s t r half first second e = written-alike (Byte Ax Low) byte s t r half first second e

key_step-alike :
    (echo : Bool) (s t : State) (r : Reg) (half : Half) → AreTwo s t
    → (is_same_register r Ax && is_same_half half Low) ≡ true
    → half_in (key_step echo s) r half ≡ half_in (key_step echo t) r half
key_step-alike echo s t r half two e =
    key-alike echo s.input s t r half two.first.registers.count two.second.registers.count e
    ∙ ap (λ input. half_in (with_key echo input t) r half) two.beside.outside.input

or-neither : (a b : Bool) → a ≡ false → b ≡ false → (a || b) ≡ false
or-neither a b p q = cc

-- a number gives no byte where it is another one's
no_byte : (n : ℕ) (number : ℕ) → (n == number) ≡ true → gives_byte (Some number) ≡ false → gives_byte (Some n) ≡ false
no_byte n number e none = ap (λ k. gives_byte (Some k)) (eqb-true n number e) ∙ none

dos-half-alike :
    (n at : ℕ) (s t : State) (r : Reg) (half : Half) → AreTwo s t →
    (is_same_register r Ax && is_same_half half Low) ≡ true
    → (gives_byte (Some n) ≡ false → half_in s r half ≡ half_in t r half)
    → half_in (dos_step n at s) r half ≡ half_in (dos_step n at t) r half
dos-half-alike n at s t r half two e kept =
    calls-relate (λ u v. half_in u r half ≡ half_in v r half) n at s t (record {
      putc = λ is. kept (no_byte n PUTC is refl);
      exit = λ is. kept (no_byte n EXIT is refl);
      key = λ echo. key_step-alike echo s t r half two e;
      puts = λ is. kept (no_byte n PUTS is refl);
      outside = λ no_getche no_getch. kept (or-neither (n == GETCHE) (n == GETCH) no_getche no_getch);
    })

-- All operations.

pub half-made :
    (cpu :
    Cpu) (op : Op) (at : ℕ) (number : Option ℕ) (s t : State) (r : Reg) (half : Half) → IsOperation op → AreTwo s t
    → IsCallNumber op number s → IsCallNumber op number t → writes_half op r half ≡ true
    → AreAlikeFor op number s t (half_of r half) → is_over (op_step cpu op at s).end ≡ false
    → half_in (op_step cpu op at s) r half ≡ half_in (op_step cpu op at t) r half
half-made cpu (Alu operation a b) at number s t r half good two m n e alike goes =
    alu-half cpu operation a b at s t r half two e alike.made
half-made cpu (Unary operation a) at number s t r half good two m n e alike goes =
    unary-half cpu operation a at s t r half two e alike.made alike.divided goes
half-made cpu (Shift operation a count) at number s t r half good two m n e alike goes =
    shift-half cpu operation a count at s t r half two e alike.made
half-made cpu (Mov to from) at number s t r half good two m n e alike goes =
    moved-alike to from s t s t r half two.beside good.widths alike.made two.first.registers.count
    two.second.registers.count e
half-made cpu (Xchg a b) at number s t r half good two m n e alike goes =
    xchg-half (is_half_of r half b) cpu a b at s t r half two good refl e alike.made
half-made cpu (Lea to ea) at number s t r half good two m n e alike goes =
    let offset =
    offset-alike s t ea (all_of (is_same_register r to) (λ from. is_in_address from ea) s t e alike.made) in
    taken-alike s t to r half _ _ two.first.registers.count two.second.registers.count e (ap (half_of_word half) offset)
half-made cpu (Imul3 to a constant) at number s t r half good two m n e alike goes =
    let value =
    value-alike s t a two.beside (all_of (is_same_register r to) (λ from. is_read from a) s t e alike.made) in
    let product = λ (n : ℕ). signed_product_of word_width n constant in
    let u = with_flags (product (operand_value s a)).2 s in
    let v = with_flags (product (operand_value t a)).2 t in
    taken-alike u v to r half (product (operand_value s a)).0 (product (operand_value t a)).0
    two.first.registers.count two.second.registers.count e (ap (λ k. half_of_word half (product k).0) value)
half-made cpu (Push a) at number s t r half good two m n e alike goes = raised-alike 65534 s t r half two e
half-made cpu (Pop a) at number s t r half good two m n e alike goes =
    pop-half (is_half_of r half a) cpu a at s t r half two good.width refl e
half-made cpu (Enter size) at number s t r half good two m n e alike goes =
    enter-half (is_same_register r Sp) cpu size at s t r half two refl e
half-made cpu Leave at number s t r half good two m n e alike goes =
    leave-half (is_same_register r Bp) cpu at s t r half two refl e
half-made cpu (Plain operation) at number s t r half good two m n e alike goes =
    plain-half-alike operation cpu at s t r half two e alike.made
half-made cpu (Jump target) at number s t r half good two m n e alike goes = cc
half-made cpu (Branch condition target) at number s t r half good two m n e alike goes = cc
half-made cpu (Loop target) at number s t r half good two m n e alike goes =
    loop-half true true target s t r half two e alike.made
half-made cpu (LoopE target) at number s t r half good two m n e alike goes =
    loop-half s.flags.zf t.flags.zf target s t r half two e alike.made
half-made cpu (LoopNe target) at number s t r half good two m n e alike goes =
    loop-half (not s.flags.zf) (not t.flags.zf) target s t r half two e alike.made
half-made cpu (Jcxz target) at number s t r half good two m n e alike goes = cc
half-made cpu (Table q offset) at number s t r half good two m n e alike goes = cc
half-made cpu (Call target) at number s t r half good two m n e alike goes =
    call-half (is_same_register r Sp) cpu target at s t r half two refl (alike.passed refl)
half-made cpu (Ret count) at number s t r half good two m n e alike goes = raised-alike (2 + count) s t r half two e
half-made cpu Int21 at number s t r half good two m n e alike goes =
    let is : word_in s Ax / 256 ≡ word_in t Ax / 256 = cc (m, n) in
    let given : gives_byte (Some (word_in s Ax / 256)) ≡ false → half_in s r half ≡ half_in t r half =
    λ none. alike.passed
    (ap (λ k. not (gives_byte k && (is_same_register r Ax && is_same_half half Low))) m
    ∙ ap (λ b. not (b && (is_same_register r Ax && is_same_half half Low))) none) in
    dos-half-alike (word_in s Ax / 256) at s t r half two e given
    ∙ ap (λ k. half_in (dos_step k at t) r half) is
