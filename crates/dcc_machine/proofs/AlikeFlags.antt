-- Flags that an operation writes: what they are made of is alike in two states, so they are.
use Rattle.std.proofs.Common.{◌≡◌, ℕ, ◌+◌, ◌*◌, ◌/◌, ◌%◌, Bool, true, false, Option, Some, None, refl, sym, ap, ◌∙◌}
use Rattle.std.specs.Int.{from_bool}
use Rattle.std.specs.Prelude.{not, ◌&&◌, ◌||◌, if◌then◌else◌, ◌==◌}
use Rattle.dcc_run.specs.End.{is_over}
use Rattle.dcc_num.specs.declared.Width.{Width}
use Rattle.dcc_num.specs.declared.Width.TheVariants.{Byte as byte_width, Word as word_width}
use Rattle.dcc_num.specs.declared.Reg.{Reg}
use Rattle.dcc_num.specs.declared.Reg.TheVariants.{Cx}
use Rattle.dcc_num.specs.declared.Half.TheVariants.{Low}
use Rattle.dcc_num.specs.declared.Flags.{Flags}
use Rattle.dcc_num.specs.declared.FlagName.{FlagName}
use Rattle.dcc_num.specs.declared.FlagName.TheVariants.{Cf, Zf, Sf, Of}
use Rattle.dcc_num.specs.Numbers.{has_sign, is_set, limit_of, half_of as half_limit, result_flags, differ}
use Rattle.dcc_num.specs.Sum.{sum_of, difference_of, negation_of, increment_of, decrement_of}
use Rattle.dcc_num.specs.Logic.{conjunction_of, disjunction_of, exclusive_of}
use Rattle.dcc_num.specs.Shift.{unless_zero, rotate_flags, top_bits_differ, rol_of, ror_of, rcl_of, rcr_of, shl_of, shr_of, sar_of}
use Rattle.dcc_num.specs.Product.{product_of, signed_product_of}
use Rattle.dcc_num.specs.Quotient.{division_of, signed_division_of}
use Rattle.dcc_machine.specs.declared.cpu.Cpu.{Cpu}
use Rattle.dcc_machine.specs.declared.instr.Alu.{Alu as AluName}
use Rattle.dcc_machine.specs.declared.instr.Alu.TheVariants.{Or, And, Xor, Test}
use Rattle.dcc_machine.specs.declared.instr.Shift.{Shift as ShiftName}
use Rattle.dcc_machine.specs.declared.instr.Shift.TheVariants.{Rol, Ror, Rcl, Rcr, Shl, Shr, Sar}
use Rattle.dcc_machine.specs.declared.instr.Count.{Count}
use Rattle.dcc_machine.specs.declared.instr.Count.TheVariants.{One, Cl, Const as ConstCount}
use Rattle.dcc_machine.specs.declared.instr.Unary.{Unary as UnaryName}
use Rattle.dcc_machine.specs.declared.instr.Unary.TheVariants.{Inc, Dec, Neg, Not, Mul, Imul, Div, Idiv}
use Rattle.dcc_machine.specs.declared.instr.Plain.{Plain as PlainName}
use Rattle.dcc_machine.specs.declared.instr.Plain.TheVariants.{Nop, Cbw, Cwd, Xlat, Clc, Stc, Cmc, Cli, Sti, Cld}
use Rattle.dcc_machine.specs.declared.instr.Operand.{Operand}
use Rattle.dcc_machine.specs.declared.instr.Op.{Op}
use Rattle.dcc_machine.specs.declared.instr.Op.TheVariants.{Alu, Unary, Shift, Mov, Xchg, Lea, Imul3, Push, Pop, Enter, Leave, Plain, Jump, Branch, Loop, LoopE, LoopNe, Jcxz, Table, Call, Ret, Int21}
use Rattle.dcc_machine.specs.Machine.{State, operand_value, operand_width}
use Rattle.dcc_machine.specs.Operations.{with_flags, with_result, accumulator_in, with_product, with_division, count_in, shift_result}
use Rattle.dcc_machine.specs.Step.{op_step}
use Rattle.dcc_machine.specs.Writes.{writes_operand, is_carry_or_overflow, unary_writes_flag, shift_writes_flag, never_shifts, plain_writes_flag, writes_flag}
use Rattle.dcc_machine.specs.Wanted.{Location, half_of, flag_of, is_read, is_flag, is_accumulator, is_logic, is_cl, is_through_carry, is_in_cl, is_by_cl, brings_carry, shift_reads, plain_makes, makes}
use Rattle.dcc_machine.specs.LocationLaws.{flag_in}
use Rattle.dcc_machine.specs.AlikeLaws.{AgreeIn, divides_by, AreAlikeFor}
use Rattle.dcc_machine.proofs.OperationForms.{alu_result, alu_written, alu-form}
use Rattle.dcc_machine.proofs.LocationKept.{operand-flags}
use Rattle.dcc_machine.proofs.AlikeValues.{and-both, and-parts, or-first, or-second, AgreeWhere, AreTwo, value-alike, count-alike}
use Rattle.dcc_machine.proofs.AlikeHalves.{all_of, alu-made, factors-alike, same-division}

-- the flags after an operand has taken a result
result-flags : (x : Operand) (result : ℕ × Flags) (s : State) → (with_result x result s).flags ≡ result.1
result-flags x result s = operand-flags x result.0 (with_flags result.1 s)

written-flags :
    (so : Bool) (x : Operand) (result : ℕ × Flags) (s : State) → (alu_written so x result s).flags ≡ result.1
written-flags true x result s = result-flags x result s
written-flags false x result s = refl

-- Operations on two operands.

-- CF and OF of AND, OR, XOR and TEST are clear
logic-clear :
    (operation : AluName) (w : Width) (a b : ℕ) (carry : Bool) (flag : FlagName) → is_logic operation ≡ true
    → is_carry_or_overflow flag ≡ true → flag_in (alu_result operation w a b carry).1 flag ≡ false
unfolding conjunction_of disjunction_of exclusive_of result_flags
logic-clear operation w a b carry Zf p q = cc
logic-clear operation w a b carry Sf p q = cc
logic-clear Or w a b carry Cf p q = refl
logic-clear Or w a b carry Of p q = refl
logic-clear And w a b carry Cf p q = refl
logic-clear And w a b carry Of p q = refl
logic-clear Xor w a b carry Cf p q = refl
logic-clear Xor w a b carry Of p q = refl
logic-clear Test w a b carry Cf p q = refl
logic-clear Test w a b carry Of p q = refl
logic-clear operation w a b carry flag p q = cc

alu-flag :
    (clear : Bool) (cpu : Cpu) (operation : AluName) (a b : Operand) (at : ℕ) (s t : State) (flag : FlagName)
    → AreTwo s t → (is_logic operation && is_carry_or_overflow flag) ≡ clear
    → AgreeWhere (makes (Alu operation a b) (flag_of flag)) s t
    → flag_in (op_step cpu (Alu operation a b) at s).flags flag ≡ flag_in
    (op_step cpu (Alu operation a b) at t).flags flag
alu-flag clear cpu operation a b at s t flag two is made =
    let w = operand_width a in
    let first = alu_result operation w (operand_value s a) (operand_value s b) s.flags.cf in
    let second = alu_result operation w (operand_value t a) (operand_value t b) t.flags.cf in
    let flags_s : (op_step cpu (Alu operation a b) at s).flags ≡ first.1 =
    ap (λ (u : State). u.flags) (alu-form operation w a (operand_value s a) (operand_value s b) s)
    ∙ written-flags (writes_operand operation) a first s in
    let flags_t : (op_step cpu (Alu operation a b) at t).flags ≡ second.1 =
    ap (λ (u : State). u.flags) (alu-form operation w a (operand_value t a) (operand_value t b) t)
    ∙ written-flags (writes_operand operation) a second t in
    ap (λ f. flag_in f flag) flags_s ∙ go clear is ∙ sym (ap (λ f. flag_in f flag) flags_t)
  where
    go :
        (c : Bool) → (is_logic operation && is_carry_or_overflow flag) ≡ c
        → flag_in (alu_result operation (operand_width a) (operand_value s a) (operand_value s b) s.flags.cf).1 flag
        ≡ flag_in (alu_result operation (operand_width a) (operand_value t a) (operand_value t b) t.flags.cf).1 flag
    go true e =
        let both = and-parts (is_logic operation) (is_carry_or_overflow flag) e in
        logic-clear operation _ _ _ _ flag both.0 both.1 ∙ sym (logic-clear operation _ _ _ _ flag both.0 both.1)
    go false e =
        ap (λ (x : ℕ × Flags). flag_in x.1 flag)
        (alu-made operation a b s t (not (is_logic operation && is_carry_or_overflow flag)) two.beside (ap not e) made)

-- Operations on one operand.

increment-flag :
    (w : Width) (a b : ℕ) (f g : Flags) (flag : FlagName) → a ≡ b → unary_writes_flag Inc flag ≡ true
    → flag_in (increment_of w a f).1 flag ≡ flag_in (increment_of w b g).1 flag
unfolding increment_of
increment-flag w a b f g Cf same e = cc
increment-flag w a b f g Zf same e = ap (λ n. (sum_of w n 1 false).1.zf) same
increment-flag w a b f g Sf same e = ap (λ n. (sum_of w n 1 false).1.sf) same
increment-flag w a b f g Of same e = ap (λ n. (sum_of w n 1 false).1.of) same

decrement-flag :
    (w : Width) (a b : ℕ) (f g : Flags) (flag : FlagName) → a ≡ b → unary_writes_flag Dec flag ≡ true
    → flag_in (decrement_of w a f).1 flag ≡ flag_in (decrement_of w b g).1 flag
unfolding decrement_of
decrement-flag w a b f g Cf same e = cc
decrement-flag w a b f g Zf same e = ap (λ n. (difference_of w n 1 false).1.zf) same
decrement-flag w a b f g Sf same e = ap (λ n. (difference_of w n 1 false).1.sf) same
decrement-flag w a b f g Of same e = ap (λ n. (difference_of w n 1 false).1.of) same

product-step : (w : Width) (product : ℕ × ℕ × Flags) (s : State) → (with_product w product s).flags ≡ product.2
product-step byte_width product s = refl
product-step word_width product s = refl

-- ZF and SF of a product are clear
product-flag :
    (w : Width) (a b c d : ℕ) (flag : FlagName) → (is_carry_or_overflow flag ≡ true → (a ≡ c) × (b ≡ d))
    → flag_in (product_of w a b).2 flag ≡ flag_in (product_of w c d).2 flag
unfolding product_of
product-flag w a b c d Cf same =
    let both = same refl in ap (λ n. (product_of w n b).2.cf) both.0 ∙ ap (λ n. (product_of w c n).2.cf) both.1
product-flag w a b c d Zf same = refl
product-flag w a b c d Sf same = refl
product-flag w a b c d Of same =
    let both = same refl in ap (λ n. (product_of w n b).2.of) both.0 ∙ ap (λ n. (product_of w c n).2.of) both.1

signed_product-flag :
    (w : Width) (a b c d : ℕ) (flag : FlagName) → (is_carry_or_overflow flag ≡ true → (a ≡ c) × (b ≡ d))
    → flag_in (signed_product_of w a b).2 flag ≡ flag_in (signed_product_of w c d).2 flag
unfolding signed_product_of
signed_product-flag w a b c d Cf same =
    let both = same refl in
    ap (λ n. (signed_product_of w n b).2.cf) both.0 ∙ ap (λ n. (signed_product_of w c n).2.cf) both.1
signed_product-flag w a b c d Zf same = refl
signed_product-flag w a b c d Sf same = refl
signed_product-flag w a b c d Of same =
    let both = same refl in
    ap (λ n. (signed_product_of w n b).2.of) both.0 ∙ ap (λ n. (signed_product_of w c n).2.of) both.1

-- a division without a fault clears all
division-step :
    (w : Width) (at : ℕ) (division : Option (ℕ × ℕ)) (s t : State) → is_over (with_division w at division s).end ≡ false
    → (with_division w at division s).flags ≡ (with_division w at division t).flags
division-step w at None s t goes = cc
division-step byte_width at (Some division) s t goes = refl
division-step word_width at (Some division) s t goes = refl

unary-flag :
    (cpu : Cpu) (operation : UnaryName) (a : Operand) (at : ℕ) (s t : State) (flag : FlagName) → AreTwo s t
    → unary_writes_flag operation flag ≡ true → AgreeWhere (makes (Unary operation a) (flag_of flag)) s t
    → AgreeWhere (divides_by (Unary operation a)) s t
    → is_over (op_step cpu (Unary operation a) at s).end ≡ false
    → flag_in (op_step cpu (Unary operation a) at s).flags flag ≡ flag_in
    (op_step cpu (Unary operation a) at t).flags flag
unary-flag cpu Inc a at s t flag two e made divided goes =
    let value =
    value-alike s t a two.beside (all_of (unary_writes_flag Inc flag) (λ from. is_read from a) s t e made) in
    ap (λ f. flag_in f flag) (result-flags a (increment_of (operand_width a) (operand_value s a) s.flags) s)
    ∙ increment-flag (operand_width a) _ _ s.flags t.flags flag value e
    ∙ sym (ap (λ f. flag_in f flag) (result-flags a (increment_of (operand_width a) (operand_value t a) t.flags) t))
unary-flag cpu Dec a at s t flag two e made divided goes =
    let value =
    value-alike s t a two.beside (all_of (unary_writes_flag Dec flag) (λ from. is_read from a) s t e made) in
    ap (λ f. flag_in f flag) (result-flags a (decrement_of (operand_width a) (operand_value s a) s.flags) s)
    ∙ decrement-flag (operand_width a) _ _ s.flags t.flags flag value e
    ∙ sym (ap (λ f. flag_in f flag) (result-flags a (decrement_of (operand_width a) (operand_value t a) t.flags) t))
unary-flag cpu Neg a at s t flag two e made divided goes =
    let value = value-alike s t a two.beside (all_of true (λ from. is_read from a) s t refl made) in
    ap (λ f. flag_in f flag) (result-flags a (negation_of (operand_width a) (operand_value s a)) s)
    ∙ ap (λ n. flag_in (negation_of (operand_width a) n).1 flag) value
    ∙ sym (ap (λ f. flag_in f flag) (result-flags a (negation_of (operand_width a) (operand_value t a)) t))
unary-flag cpu Not a at s t flag two e made divided goes = cc
unary-flag cpu Mul a at s t flag two e made divided goes =
    let w = operand_width a in
    let same = λ (h : is_carry_or_overflow flag ≡ true).
    factors-alike a s t two.beside
    (all_of (is_carry_or_overflow flag) (λ from. is_accumulator w from || is_read from a) s t h made) in
    ap (λ f. flag_in f flag) (product-step w (product_of w (accumulator_in w s) (operand_value s a)) s)
    ∙ product-flag w _ _ _ _ flag same
    ∙ sym (ap (λ f. flag_in f flag) (product-step w (product_of w (accumulator_in w t) (operand_value t a)) t))
unary-flag cpu Imul a at s t flag two e made divided goes =
    let w = operand_width a in
    let same = λ (h : is_carry_or_overflow flag ≡ true).
    factors-alike a s t two.beside
    (all_of (is_carry_or_overflow flag) (λ from. is_accumulator w from || is_read from a) s t h made) in
    ap (λ f. flag_in f flag) (product-step w (signed_product_of w (accumulator_in w s) (operand_value s a)) s)
    ∙ signed_product-flag w _ _ _ _ flag same
    ∙ sym (ap (λ f. flag_in f flag) (product-step w (signed_product_of w (accumulator_in w t) (operand_value t a)) t))
unary-flag cpu Div a at s t flag two e made divided goes =
    ap (λ f. flag_in f flag) (division-step (operand_width a) at _ s t goes)
    ∙ ap (λ d. flag_in (with_division (operand_width a) at d t).flags flag)
    (same-division division_of a s t two.beside divided)
unary-flag cpu Idiv a at s t flag two e made divided goes =
    ap (λ f. flag_in f flag) (division-step (operand_width a) at _ s t goes)
    ∙ ap (λ d. flag_in (with_division (operand_width a) at d t).flags flag)
    (same-division signed_division_of a s t two.beside divided)

-- Shifts and rotates.

-- by none a flag stays, else it is the other one
unless-flag :
    (count a r b q : ℕ) (was other flags flagged : Flags) (flag : FlagName)
    → ((count == 0) ≡ true → flag_in was flag ≡ flag_in other flag) → flag_in flags flag ≡ flag_in flagged flag
    → flag_in (unless_zero count (a, was) (r, flags)).1 flag ≡ flag_in
    (unless_zero count (b, other) (q, flagged)).1 flag
unless-flag count a r b q was other flags flagged flag still same = go (count == 0) still
  where
    go :
        (none : Bool) → (none ≡ true → flag_in was flag ≡ flag_in other flag)
        → flag_in (if none then (let x : ℕ × Flags = (a, was) in x) else (r, flags)).1 flag
        ≡ flag_in (if none then (let x : ℕ × Flags = (b, other) in x) else (q, flagged)).1 flag
    go true h = h refl
    go false h = same

-- a new CF or OF is that of the other rotate
rotated-flag :
    (was other : Flags) (carry overflow : Bool) (flag : FlagName) → is_carry_or_overflow flag ≡ true
    → flag_in (rotate_flags was carry overflow) flag ≡ flag_in (rotate_flags other carry overflow) flag
rotated-flag was other carry overflow Cf e = refl
rotated-flag was other carry overflow Zf e = cc
rotated-flag was other carry overflow Sf e = cc
rotated-flag was other carry overflow Of e = refl

-- what the flags of a shift need of two states
pub record AreShiftedAlike (operation : ShiftName) (a b n m : ℕ) (was other : Flags) (flag : FlagName) : Type 0 where
  pub value : shift_reads operation (flag_of flag) ≡ true → a ≡ b
  pub count : is_through_carry operation ≡ false → n ≡ m
  pub carry : brings_carry operation (flag_of flag) ≡ true → was.cf ≡ other.cf
  pub still : is_through_carry operation ≡ false → (m == 0) ≡ true → flag_in was flag ≡ flag_in other flag

abbrev flag_of_overflow : FlagName → Bool
flag_of_overflow Of = true
flag_of_overflow flag = false

brings-left : (flag : FlagName) → flag_of_overflow flag ≡ true → brings_carry Rcl (flag_of flag) ≡ true
brings-left Of e = refl
brings-left Cf e = e
brings-left flag e = cc

brings-right : (flag : FlagName) → flag_of_overflow flag ≡ true → brings_carry Rcr (flag_of flag) ≡ true
brings-right Of e = refl
brings-right Cf e = e
brings-right flag e = cc

turn-flag :
    (w :
    Width) (a b : ℕ) (was other : Flags) (flag : FlagName) → a ≡ b →
    (flag_of_overflow flag ≡ true → was.cf ≡ other.cf)
    → is_carry_or_overflow flag ≡ true
    → (flag_in (rcl_of w a was).1 flag ≡ flag_in (rcl_of w b other).1 flag)
    × (flag_in (rcr_of w a was).1 flag ≡ flag_in (rcr_of w b other).1 flag)
unfolding rcl_of rcr_of
turn-flag w a b was other Cf same carry e = (ap (λ k. has_sign w k) same, ap (λ k. is_set k 0) same)
turn-flag w a b was other Zf same carry e = cc
turn-flag w a b was other Sf same carry e = cc
turn-flag w a b was other Of same carry e =
    let brought = carry refl in (
      ap (λ k. differ (has_sign w k) (has_sign w ((2 * k + from_bool was.cf) % limit_of w))) same
          ∙ ap (λ c. differ (has_sign w b) (has_sign w ((2 * b + from_bool c) % limit_of w))) brought,
      ap (λ k. top_bits_differ w (k / 2 + from_bool was.cf * half_limit w)) same
          ∙ ap (λ c. top_bits_differ w (b / 2 + from_bool c * half_limit w)) brought,
    )

-- OF of SAR is clear where it is written
sar-flag :
    (w : Width) (a b n m : ℕ) (was other : Flags) (flag : FlagName) → AreShiftedAlike Sar a b n m was other flag
    → flag_in (sar_of w a n was).1 flag ≡ flag_in (sar_of w b m other).1 flag
unfolding sar_of result_flags
sar-flag w a b n m was other Cf alike =
    ap (λ k. (sar_of w k n was).1.cf) (alike.value refl) ∙ ap (λ k. (sar_of w b k was).1.cf) (alike.count refl)
    ∙ unless-flag m b _ b _ was other _ _ Cf (alike.still refl) refl
sar-flag w a b n m was other Zf alike =
    ap (λ k. (sar_of w k n was).1.zf) (alike.value refl) ∙ ap (λ k. (sar_of w b k was).1.zf) (alike.count refl)
    ∙ unless-flag m b _ b _ was other _ _ Zf (alike.still refl) refl
sar-flag w a b n m was other Sf alike =
    ap (λ k. (sar_of w k n was).1.sf) (alike.value refl) ∙ ap (λ k. (sar_of w b k was).1.sf) (alike.count refl)
    ∙ unless-flag m b _ b _ was other _ _ Sf (alike.still refl) refl
sar-flag w a b n m was other Of alike =
    ap (λ k. (sar_of w a k was).1.of) (alike.count refl)
    ∙ unless-flag m a _ b _ was other _ _ Of (alike.still refl) refl

shift-flag :
    (operation : ShiftName) (w : Width) (a b n m : ℕ) (was other : Flags) (flag : FlagName)
    → shift_writes_flag operation flag ≡ true → AreShiftedAlike operation a b n m was other flag
    → flag_in (shift_result operation w a n was).1 flag ≡ flag_in (shift_result operation w b m other).1 flag
unfolding rol_of ror_of shl_of shr_of
shift-flag Rol w a b n m was other flag e alike =
    ap (λ k. flag_in (rol_of w k n was).1 flag) (alike.value refl)
    ∙ ap (λ k. flag_in (rol_of w b k was).1 flag) (alike.count refl)
    ∙ unless-flag m b _ b _ was other _ _ flag (alike.still refl) (rotated-flag was other _ _ flag e)
shift-flag Ror w a b n m was other flag e alike =
    ap (λ k. flag_in (ror_of w k n was).1 flag) (alike.value refl)
    ∙ ap (λ k. flag_in (ror_of w b k was).1 flag) (alike.count refl)
    ∙ unless-flag m b _ b _ was other _ _ flag (alike.still refl) (rotated-flag was other _ _ flag e)
shift-flag Rcl w a b n m was other flag e alike =
    (turn-flag w a b was other flag (alike.value refl) (λ h. alike.carry (brings-left flag h)) e).0
shift-flag Rcr w a b n m was other flag e alike =
    (turn-flag w a b was other flag (alike.value refl) (λ h. alike.carry (brings-right flag h)) e).1
shift-flag Shl w a b n m was other flag e alike =
    ap (λ k. flag_in (shl_of w k n was).1 flag) (alike.value refl)
    ∙ ap (λ k. flag_in (shl_of w b k was).1 flag) (alike.count refl)
    ∙ unless-flag m b _ b _ was other _ _ flag (alike.still refl) refl
shift-flag Shr w a b n m was other flag e alike =
    ap (λ k. flag_in (shr_of w k n was).1 flag) (alike.value refl)
    ∙ ap (λ k. flag_in (shr_of w b k was).1 flag) (alike.count refl)
    ∙ unless-flag m b _ b _ was other _ _ flag (alike.still refl) refl
shift-flag Sar w a b n m was other flag e alike = sar-flag w a b n m was other flag alike

-- a shift whose count isn't in CL is by none only where it never shifts
count-some :
    (cpu : Cpu) (count : Count) (s : State) → is_in_cl count ≡ false → never_shifts count ≡ false
    → (count_in cpu count s == 0) ≡ true → ⊥
count-some cpu One s apart never none = cc
count-some cpu Cl s apart never none = cc
count-some cpu (ConstCount number) s apart never none = cc

shift-made :
    (cpu : Cpu) (operation : ShiftName) (a : Operand) (count : Count) (at : ℕ) (s t : State) (flag : FlagName)
    → AreTwo s t → writes_flag (Shift operation a count) flag ≡ true
    → AgreeWhere (makes (Shift operation a count) (flag_of flag)) s t
    → (is_by_cl operation count ≡ true → AgreeIn (flag_of flag) s t)
    → flag_in (op_step cpu (Shift operation a count) at s).flags flag
    ≡ flag_in (op_step cpu (Shift operation a count) at t).flags flag
shift-made cpu operation a count at s t flag two e made passed =
    let w = operand_width a in
    let writes = and-parts (shift_writes_flag operation flag) (not (never_shifts count)) e in
    let n = count_in cpu count s in
    let m = count_in cpu count t in
    let reads = λ (from : Location).
    (shift_reads operation (flag_of flag) && is_read from a)
    || ((is_by_cl operation count && is_cl from) || (brings_carry operation (flag_of flag) && is_flag Cf from)) in
    let agree : AgreeWhere reads s t =
    all_of (shift_writes_flag operation flag && not (never_shifts count)) reads s t e made in
    let by_cl = λ (turned : is_through_carry operation ≡ false) (cl : is_in_cl count ≡ true).
    and-both (is_in_cl count) (not (is_through_carry operation)) cl (ap not turned) in
    let alike : AreShiftedAlike operation (operand_value s a) (operand_value t a) n m s.flags t.flags flag = record {
      value = λ h. value-alike s t a two.beside (λ from r.
          agree from (or-first (shift_reads operation (flag_of flag) && is_read from a) _
          (and-both (shift_reads operation (flag_of flag)) (is_read from a) h r)));
      count = λ turned. count-alike cpu count s t (λ cl.
          agree (half_of Cx Low)
          (or-second (shift_reads operation (flag_of flag) && is_read (half_of Cx Low) a) _
          (or-first (is_by_cl operation count && true) _
          (and-both (is_by_cl operation count) true (by_cl turned cl) refl))));
      carry = λ h.
          agree (flag_of Cf)
          (or-second (shift_reads operation (flag_of flag) && is_read (flag_of Cf) a) _
          (or-second (is_by_cl operation count && false) _
          (and-both (brings_carry operation (flag_of flag)) true h refl)));
      still = λ turned none. still_flag turned none (is_in_cl count) refl (never_shifts count) refl writes.1;
    } in
    ap (λ f. flag_in f flag) (result-flags a (shift_result operation w (operand_value s a) n s.flags) s)
    ∙ shift-flag operation w (operand_value s a) (operand_value t a) n m s.flags t.flags flag writes.0 alike
    ∙ sym (ap (λ f. flag_in f flag) (result-flags a (shift_result operation w (operand_value t a) m t.flags) t))
  where
    still_flag :
        is_through_carry operation ≡ false → (count_in cpu count t == 0) ≡ true → (cl : Bool) → is_in_cl count ≡ cl
        → (never : Bool) → never_shifts count ≡ never → not never ≡ true → flag_in s.flags flag ≡ flag_in t.flags flag
    still_flag turned none true c never q h =
        passed (and-both (is_in_cl count) (not (is_through_carry operation)) c (ap not turned))
    still_flag turned none false c true q h = cc
    still_flag turned none false c false q h = absurd (count-some cpu count t c q none)

-- IMUL with a constant, operations without operands, and then all operations together.

imul3-flag :
    (cpu : Cpu) (to : Reg) (a : Operand) (constant at : ℕ) (s t : State) (flag : FlagName) → AreTwo s t
    → AgreeWhere (makes (Imul3 to a constant) (flag_of flag)) s t
    → flag_in (op_step cpu (Imul3 to a constant) at s).flags flag ≡ flag_in
    (op_step cpu (Imul3 to a constant) at t).flags flag
imul3-flag cpu to a constant at s t flag two made =
    signed_product-flag word_width (operand_value s a) constant (operand_value t a) constant flag (λ h.
    (value-alike s t a two.beside (all_of (is_carry_or_overflow flag) (λ from. is_read from a) s t h made), refl))

plain-flag :
    (operation : PlainName) (cpu : Cpu) (at : ℕ) (s t : State) (flag : FlagName)
    → plain_writes_flag operation flag ≡ true → AgreeWhere (plain_makes operation (flag_of flag)) s t
    → flag_in (op_step cpu (Plain operation) at s).flags flag ≡ flag_in (op_step cpu (Plain operation) at t).flags flag
plain-flag Nop cpu at s t flag e made = cc
plain-flag Cbw cpu at s t flag e made = cc
plain-flag Cwd cpu at s t flag e made = cc
plain-flag Xlat cpu at s t flag e made = cc
plain-flag Clc cpu at s t Cf e made = refl
plain-flag Clc cpu at s t Zf e made = cc
plain-flag Clc cpu at s t Sf e made = cc
plain-flag Clc cpu at s t Of e made = cc
plain-flag Stc cpu at s t Cf e made = refl
plain-flag Stc cpu at s t Zf e made = cc
plain-flag Stc cpu at s t Sf e made = cc
plain-flag Stc cpu at s t Of e made = cc
plain-flag Cmc cpu at s t Cf e made = ap not (made (flag_of Cf) refl)
plain-flag Cmc cpu at s t Zf e made = cc
plain-flag Cmc cpu at s t Sf e made = cc
plain-flag Cmc cpu at s t Of e made = cc
plain-flag Cli cpu at s t flag e made = cc
plain-flag Sti cpu at s t flag e made = cc
plain-flag Cld cpu at s t flag e made = cc

-- All operations.

pub flag-made :
    (cpu : Cpu) (op : Op) (at : ℕ) (number : Option ℕ) (s t : State) (flag : FlagName) → AreTwo s t
    → writes_flag op flag ≡ true → AreAlikeFor op number s t (flag_of flag)
    → is_over (op_step cpu op at s).end ≡ false
    → flag_in (op_step cpu op at s).flags flag ≡ flag_in (op_step cpu op at t).flags flag
flag-made cpu (Alu operation a b) at number s t flag two e alike goes =
    alu-flag (is_logic operation && is_carry_or_overflow flag) cpu operation a b at s t flag two refl alike.made
flag-made cpu (Unary operation a) at number s t flag two e alike goes =
    unary-flag cpu operation a at s t flag two e alike.made alike.divided goes
flag-made cpu (Shift operation a count) at number s t flag two e alike goes =
    shift-made cpu operation a count at s t flag two e alike.made (λ by_cl.
    alike.passed (ap (λ b. not (writes_flag (Shift operation a count) flag && not b)) by_cl
    ∙ ap (λ b. not (b && false)) e))
flag-made cpu (Mov to from) at number s t flag two e alike goes = cc
flag-made cpu (Xchg a b) at number s t flag two e alike goes = cc
flag-made cpu (Lea to ea) at number s t flag two e alike goes = cc
flag-made cpu (Imul3 to a constant) at number s t flag two e alike goes =
    imul3-flag cpu to a constant at s t flag two alike.made
flag-made cpu (Push a) at number s t flag two e alike goes = cc
flag-made cpu (Pop a) at number s t flag two e alike goes = cc
flag-made cpu (Enter size) at number s t flag two e alike goes = cc
flag-made cpu Leave at number s t flag two e alike goes = cc
flag-made cpu (Plain operation) at number s t flag two e alike goes = plain-flag operation cpu at s t flag e alike.made
flag-made cpu (Jump target) at number s t flag two e alike goes = cc
flag-made cpu (Branch condition target) at number s t flag two e alike goes = cc
flag-made cpu (Loop target) at number s t flag two e alike goes = cc
flag-made cpu (LoopE target) at number s t flag two e alike goes = cc
flag-made cpu (LoopNe target) at number s t flag two e alike goes = cc
flag-made cpu (Jcxz target) at number s t flag two e alike goes = cc
flag-made cpu (Table q offset) at number s t flag two e alike goes = cc
flag-made cpu (Call target) at number s t flag two e alike goes = alike.passed refl
flag-made cpu (Ret count) at number s t flag two e alike goes = cc
flag-made cpu Int21 at number s t flag two e alike goes = cc
