-- The operations on two operands: what their statements leave in the temporary of the result and in the flags is what
-- the machine gives.
use Rattle.std.proofs.Common.{◌≡◌, ◌∙◌, sym, ap, refl, subst, ℕ, ◌+◌, ◌-◌, ◌/◌, ◌%◌, ◌^◌, ◌<◌, Bool, true, false, nat_lt, nat_le, ◌++◌, arith}
use Rattle.std.specs.Prelude.{if◌then◌else◌, ◌==◌, int_lt, int_le, bit_and, bit_xor}
use Rattle.std.specs.Int.{from_bool}
use Rattle.std.specs.List.{list_all}
use Rattle.std.proofs.lemmas.Nat.{and_le_l, or_lt, xor_lt}
use Rattle.dcc_num.specs.declared.Width.{Width}
use Rattle.dcc_num.specs.declared.Width.TheVariants.{Byte as byte_width, Word as word_width}
use Rattle.dcc_num.specs.declared.FlagName.TheVariants.{Cf, Zf, Sf, Of}
use Rattle.dcc_num.specs.declared.Flags.{Flags}
use Rattle.dcc_num.specs.Numbers.{bits_of, limit_of, has_sign, result_flags}
use Rattle.dcc_num.specs.Sum.{sum_of, difference_of}
use Rattle.dcc_num.specs.Logic.{conjunction_of, disjunction_of, exclusive_of}
use Rattle.dcc_machine.specs.declared.instr.Alu.{Alu}
use Rattle.dcc_machine.specs.declared.instr.Alu.TheVariants.{Add, Or, Adc, Sbb, And, Sub, Xor, Cmp, Test}
use Rattle.dcc_machine.specs.declared.instr.Operand.{Operand}
use Rattle.dcc_machine.specs.Machine.{State as Machine, operand_value, operand_width}
use Rattle.dcc_machine.specs.Operations.{alu_step}
use Rattle.dcc_machine.specs.WellFormed.{AreOperands}
use Rattle.dcc_machine.specs.Writes.{writes_operand}
use Rattle.dcc_ir.specs.declared.syntax.Loc.{Loc}
use Rattle.dcc_ir.specs.declared.syntax.Loc.TheVariants.{Flag, Temp}
use Rattle.dcc_ir.specs.declared.syntax.BinOp.{BinOp}
use Rattle.dcc_ir.specs.declared.syntax.BinOp.TheVariants.{And as AndOp, Or as OrOp, Xor as XorOp, Eq}
use Rattle.dcc_ir.specs.Location.{with_value}
use Rattle.dcc_ir.specs.Tree.{Expr}
use Rattle.dcc_ir.specs.Value.{signed_at, binary_value, Environment, value_of}
use Rattle.dcc_ir.specs.Run.{State, scene_of, execute}
use Rattle.dcc_ir.proofs.ExecuteLaws.{execute-append}
use Rattle.dcc_ops.specs.Temporaries.{left_place, right_place, result_place, carry_place}
use Rattle.dcc_ops.specs.OperandPlace.{OperandPlace}
use Rattle.dcc_ops.specs.Expressions.{left, right, result, at_width, bit, flag, sign, is_zero, sum, sum_and_carry, carry_out, carry_out_of_both, sum_overflow, difference, difference_and_borrow, borrow_out, borrow_out_of_both, difference_overflow, difference_overflow_of_both}
use Rattle.dcc_ops.specs.Statements.{operands_taking, flags_taking, carry_taking, result_taking, subtracting, combining, alu_working, alu_storing, alu_stmts}
use Rattle.dcc_ops.specs.Executed.{executed}
use Rattle.dcc_ops.specs.Coupling.{Relation, IsCoupling, IsRead, IsWrittenIf}
use Rattle.dcc_ops.proofs.CouplingLaws.{sets_scratch, Working, Holding, worked_on, both_took, finished}
use Rattle.dcc_ops.proofs.SumValues.{xor_bits, and_bits, sign_value, sum_result, sum_with_carry, sum_below, sum_carry, sum_carry_of_both, sum_sign, sum_zero, sum_overflow_flag, difference_result, difference_with_borrow, difference_below, difference_borrow, difference_borrow_of_both, difference_sign, difference_zero, difference_equal, signed_same, difference_overflow_flag}

-- Results and flags.

-- a location takes the value of an expression
abbrev pub after_set : Loc → Expr → Environment → Environment
after_set location e scene = record scene { values = with_value scene.values location (value_of scene e) }

-- the result and the flags are made by these expressions, each of which reads what those before it left
pub worked : (w : Width) (scene : Environment) (e o n z c : Expr) (outcome : ℕ × Flags) → value_of scene e ≡ outcome.0
    → value_of (after_set (result_place w) e scene) o ≡ from_bool outcome.1.of
    → value_of (after_set (Flag Of) o (after_set (result_place w) e scene)) n ≡ from_bool outcome.1.sf
    → value_of (after_set (Flag Sf) n (after_set (Flag Of) o (after_set (result_place w) e scene))) z
    ≡ from_bool outcome.1.zf
    → value_of (after_set (Flag Zf) z
    (after_set (Flag Sf) n (after_set (Flag Of) o (after_set (result_place w) e scene)))) c ≡ from_bool outcome.1.cf
    → Working w outcome (executed (result_taking w e ++ (flags_taking o n z ++ carry_taking c)) scene)
worked byte_width scene e o n z c outcome er eo en ez ec =
    record { value = er; flags = record { carry = ec; zero = ez; negative = en; overflow = eo } }
worked word_width scene e o n z c outcome er eo en ez ec =
    record { value = er; flags = record { carry = ec; zero = ez; negative = en; overflow = eo } }

-- the result and the flags but for CF, which stays, are made by these expressions
pub worked_three : (w : Width) (scene : Environment) (e o n z : Expr) (outcome : ℕ × Flags) → value_of scene e
    ≡ outcome.0
    → value_of (after_set (result_place w) e scene) o ≡ from_bool outcome.1.of
    → value_of (after_set (Flag Of) o (after_set (result_place w) e scene)) n ≡ from_bool outcome.1.sf
    → value_of (after_set (Flag Sf) n (after_set (Flag Of) o (after_set (result_place w) e scene))) z
    ≡ from_bool outcome.1.zf
    → scene.values (Flag Cf) ≡ from_bool outcome.1.cf
    → Working w outcome (executed (result_taking w e ++ flags_taking o n z) scene)
worked_three byte_width scene e o n z outcome er eo en ez kept =
    record { value = er; flags = record { carry = kept; zero = ez; negative = en; overflow = eo } }
worked_three word_width scene e o n z outcome er eo en ez kept =
    record { value = er; flags = record { carry = kept; zero = ez; negative = en; overflow = eo } }

-- Flags, as the expressions compute them of the operands a and b and of a result r.

pub sign_flag : (w : Width) (r : ℕ) (outcome : ℕ × Flags) → r ≡ outcome.0 → outcome.0 < limit_of w
    → has_sign w outcome.0 ≡ outcome.1.sf → r / 2 ^ (bits_of w - 1) % 2 ^ 1 ≡ from_bool outcome.1.sf
sign_flag w r outcome e small is = ap (λ n. n / 2 ^ (bits_of w - 1) % 2 ^ 1) e ∙ sign_value w outcome.0 small
    ∙ ap from_bool is

pub zero_flag : (r : ℕ) (outcome : ℕ × Flags) → r ≡ outcome.0 → (outcome.0 == 0) ≡ outcome.1.zf
    → from_bool (r == 0) ≡ from_bool outcome.1.zf
zero_flag r outcome e is = ap (λ n. from_bool (n == 0)) e ∙ ap from_bool is

-- OF of a sum
pub sum_overflow_value : (w : Width) (a b r : ℕ) (c : Bool) → a < limit_of w → b < limit_of w → r ≡ (sum_of w a b c).0
    → bit_and (bit_xor (a / 2 ^ (bits_of w - 1) % 2 ^ 1) (r / 2 ^ (bits_of w - 1) % 2 ^ 1))
    (bit_xor (b / 2 ^ (bits_of w - 1) % 2 ^ 1) (r / 2 ^ (bits_of w - 1) % 2 ^ 1)) ≡ from_bool (sum_of w a b c).1.of
sum_overflow_value w a b r c first second e =
    rw (
      e,
      sign_value w a first,
      sign_value w b second,
      sign_value w (sum_of w a b c).0 (sum_below w a b c),
      xor_bits (has_sign w a)
          (has_sign w (sum_of w a b c).0),
      xor_bits (has_sign w b) (has_sign w (sum_of w a b c).0),
      and_bits,
    )
    (ap from_bool (sum_overflow_flag w a b c first second))

-- CF of a sum
sum_carry_value : (w : Width) (a b r : ℕ) → a < limit_of w → b < limit_of w → r ≡ (sum_of w a b false).0
    → from_bool (nat_lt r a) ≡ from_bool (sum_of w a b false).1.cf
sum_carry_value w a b r first second e = rw e (ap from_bool (sum_carry w a b first second))

-- a choice between two tests by CF
chosen_test : (k : ℕ) (c p q : Bool) → k ≡ from_bool c
    → (if k == 1 then from_bool p else from_bool q) ≡ from_bool (if c then p else q)
chosen_test k true p q e = ap (λ n. if n == 1 then from_bool p else from_bool q) e
chosen_test k false p q e = ap (λ n. if n == 1 then from_bool p else from_bool q) e

sum_carry_of_both_value : (w : Width) (a b k r : ℕ) (c : Bool) → a < limit_of w → b < limit_of w → k ≡ from_bool c
    → r ≡ (sum_of w a b c).0
    → (if k == 1 then from_bool (nat_le r a) else from_bool (nat_lt r a)) ≡ from_bool (sum_of w a b c).1.cf
sum_carry_of_both_value w a b k r c first second flag e =
    chosen_test k c (nat_le r a) (nat_lt r a) flag ∙ rw e (ap from_bool (sum_carry_of_both w a b c first second))

sum_with_carry_value : (w : Width) (a b k : ℕ) (c : Bool) → k ≡ from_bool c
    → ((a + b) % 2 ^ bits_of w + k) % 2 ^ bits_of w ≡ (sum_of w a b c).0
sum_with_carry_value w a b k c flag = rw flag (sum_with_carry w a b c)

-- OF of a difference
pub difference_overflow_value : (w : Width) (a b k r : ℕ) (c : Bool) → a < limit_of w → b < limit_of w → k ≡ from_bool c
    → r ≡ (difference_of w a b c).0
    → bit_xor (if k == 1 then from_bool (int_le (signed_at (bits_of w) a) (signed_at (bits_of w) b)) else from_bool
    (int_lt (signed_at (bits_of w) a) (signed_at (bits_of w) b))) (r / 2 ^ (bits_of w - 1) % 2 ^ 1)
    ≡ from_bool (difference_of w a b c).1.of
difference_overflow_value w a b k r c first second flag e =
    ap (λ n. bit_xor n (r / 2 ^ (bits_of w - 1) % 2 ^ 1))
    (chosen_test k c (int_le (signed_at (bits_of w) a) (signed_at (bits_of w) b))
    (int_lt (signed_at (bits_of w) a) (signed_at (bits_of w) b)) flag)
    ∙ rw (e, signed_same w a, signed_same w b, sign_value w (difference_of w a b c).0 (difference_below w a b c))
    (xor_bits _ _)
    ∙ ap from_bool (difference_overflow_flag w a b c first second)

difference_with_borrow_value : (w : Width) (a b k : ℕ) (c : Bool) → a < limit_of w → b < limit_of w → k ≡ from_bool c
    → ((a + 2 ^ bits_of w - b) % 2 ^ bits_of w + 2 ^ bits_of w - k) % 2 ^ bits_of w ≡ (difference_of w a b c).0
difference_with_borrow_value w a b k c first second flag = rw flag (difference_with_borrow w a b c first second)

-- What operations do to the result and the flags.

-- ADD
sum_worked : (w : Width) (scene : Environment) → scene.values (left_place w) < limit_of w
    → scene.values (right_place w) < limit_of w
    → Working w (sum_of w (scene.values (left_place w)) (scene.values (right_place w)) false)
    (executed (alu_working Add w) scene)
sum_worked byte_width scene first second =
    let a = scene.values (Temp 0) in
    let b = scene.values (Temp 1) in
    let outcome : ℕ × Flags = sum_of byte_width a b false in
    let r = sum_result byte_width a b in
    worked byte_width scene (sum byte_width) (sum_overflow byte_width) (sign byte_width (result byte_width))
    (is_zero byte_width (result byte_width)) (carry_out byte_width) outcome r
    (sum_overflow_value byte_width a b _ false first second r)
    (sign_flag byte_width _ outcome r (sum_below byte_width a b false) (sum_sign byte_width a b false))
    (zero_flag _ outcome r (sum_zero byte_width a b false))
    (sum_carry_value byte_width a b _ first second r)
sum_worked word_width scene first second =
    let a = scene.values (Temp 3) in
    let b = scene.values (Temp 4) in
    let outcome : ℕ × Flags = sum_of word_width a b false in
    let r = sum_result word_width a b in
    worked word_width scene (sum word_width) (sum_overflow word_width) (sign word_width (result word_width))
    (is_zero word_width (result word_width)) (carry_out word_width) outcome r
    (sum_overflow_value word_width a b _ false first second r)
    (sign_flag word_width _ outcome r (sum_below word_width a b false) (sum_sign word_width a b false))
    (zero_flag _ outcome r (sum_zero word_width a b false))
    (sum_carry_value word_width a b _ first second r)

-- ADC
sum_with_carry_worked : (w : Width) (c : Bool) (scene : Environment) → scene.values (Flag Cf) ≡ from_bool c
    → scene.values (left_place w) < limit_of w → scene.values (right_place w) < limit_of w
    → Working w (sum_of w (scene.values (left_place w)) (scene.values (right_place w)) c)
    (executed (alu_working Adc w) scene)
sum_with_carry_worked byte_width c scene carry first second =
    let a = scene.values (Temp 0) in
    let b = scene.values (Temp 1) in
    let outcome : ℕ × Flags = sum_of byte_width a b c in
    let r = sum_with_carry_value byte_width a b (scene.values (Flag Cf)) c carry in
    worked byte_width (after_set carry_place (flag Cf) scene) (sum_and_carry byte_width) (sum_overflow byte_width)
    (sign byte_width (result byte_width))
    (is_zero byte_width (result byte_width)) (carry_out_of_both byte_width) outcome r
    (sum_overflow_value byte_width a b _ c first second r)
    (sign_flag byte_width _ outcome r (sum_below byte_width a b c) (sum_sign byte_width a b c))
    (zero_flag _ outcome r (sum_zero byte_width a b c))
    (sum_carry_of_both_value byte_width a b (scene.values (Flag Cf)) _ c first second carry r)
sum_with_carry_worked word_width c scene carry first second =
    let a = scene.values (Temp 3) in
    let b = scene.values (Temp 4) in
    let outcome : ℕ × Flags = sum_of word_width a b c in
    let r = sum_with_carry_value word_width a b (scene.values (Flag Cf)) c carry in
    worked word_width (after_set carry_place (flag Cf) scene) (sum_and_carry word_width) (sum_overflow word_width)
    (sign word_width (result word_width))
    (is_zero word_width (result word_width)) (carry_out_of_both word_width) outcome r
    (sum_overflow_value word_width a b _ c first second r)
    (sign_flag word_width _ outcome r (sum_below word_width a b c) (sum_sign word_width a b c))
    (zero_flag _ outcome r (sum_zero word_width a b c))
    (sum_carry_of_both_value word_width a b (scene.values (Flag Cf)) _ c first second carry r)

-- SUB, CMP and NEG
pub difference_worked : (w : Width) (scene : Environment) → scene.values (left_place w) < limit_of w
    → scene.values (right_place w) < limit_of w
    → Working w (difference_of w (scene.values (left_place w)) (scene.values (right_place w)) false)
    (executed (subtracting w) scene)
difference_worked byte_width scene first second =
    let a = scene.values (Temp 0) in
    let b = scene.values (Temp 1) in
    let outcome : ℕ × Flags = difference_of byte_width a b false in
    let r = difference_result byte_width a b in
    worked byte_width scene (difference byte_width) (difference_overflow byte_width)
    (sign byte_width (result byte_width))
    (at_width Eq byte_width (left byte_width) (right byte_width)) (borrow_out byte_width) outcome r
    (difference_overflow_value byte_width a b 0 _ false first second refl r)
    (sign_flag byte_width _ outcome r (difference_below byte_width a b false) (difference_sign byte_width a b false))
    (ap from_bool (difference_equal byte_width a b first second))
    (ap from_bool (difference_borrow byte_width a b first second))
difference_worked word_width scene first second =
    let a = scene.values (Temp 3) in
    let b = scene.values (Temp 4) in
    let outcome : ℕ × Flags = difference_of word_width a b false in
    let r = difference_result word_width a b in
    worked word_width scene (difference word_width) (difference_overflow word_width)
    (sign word_width (result word_width))
    (at_width Eq word_width (left word_width) (right word_width)) (borrow_out word_width) outcome r
    (difference_overflow_value word_width a b 0 _ false first second refl r)
    (sign_flag word_width _ outcome r (difference_below word_width a b false) (difference_sign word_width a b false))
    (ap from_bool (difference_equal word_width a b first second))
    (ap from_bool (difference_borrow word_width a b first second))

-- SBB
difference_with_borrow_worked : (w : Width) (c : Bool) (scene : Environment) → scene.values (Flag Cf) ≡ from_bool c
    → scene.values (left_place w) < limit_of w → scene.values (right_place w) < limit_of w
    → Working w (difference_of w (scene.values (left_place w)) (scene.values (right_place w)) c)
    (executed (alu_working Sbb w) scene)
difference_with_borrow_worked byte_width c scene carry first second =
    let a = scene.values (Temp 0) in
    let b = scene.values (Temp 1) in
    let k = scene.values (Flag Cf) in
    let outcome : ℕ × Flags = difference_of byte_width a b c in
    let r = difference_with_borrow_value byte_width a b k c first second carry in
    worked byte_width (after_set carry_place (flag Cf) scene) (difference_and_borrow byte_width)
    (difference_overflow_of_both byte_width) (sign byte_width (result byte_width))
    (is_zero byte_width (result byte_width)) (borrow_out_of_both byte_width) outcome r
    (difference_overflow_value byte_width a b k _ c first second carry r)
    (sign_flag byte_width _ outcome r (difference_below byte_width a b c) (difference_sign byte_width a b c))
    (zero_flag _ outcome r (difference_zero byte_width a b c))
    (chosen_test k c (nat_le a b) (nat_lt a b) carry ∙ ap from_bool (difference_borrow_of_both byte_width a b c))
difference_with_borrow_worked word_width c scene carry first second =
    let a = scene.values (Temp 3) in
    let b = scene.values (Temp 4) in
    let k = scene.values (Flag Cf) in
    let outcome : ℕ × Flags = difference_of word_width a b c in
    let r = difference_with_borrow_value word_width a b k c first second carry in
    worked word_width (after_set carry_place (flag Cf) scene) (difference_and_borrow word_width)
    (difference_overflow_of_both word_width) (sign word_width (result word_width))
    (is_zero word_width (result word_width)) (borrow_out_of_both word_width) outcome r
    (difference_overflow_value word_width a b k _ c first second carry r)
    (sign_flag word_width _ outcome r (difference_below word_width a b c) (difference_sign word_width a b c))
    (zero_flag _ outcome r (difference_zero word_width a b c))
    (chosen_test k c (nat_le a b) (nat_lt a b) carry ∙ ap from_bool (difference_borrow_of_both word_width a b c))

-- the result and the flags of AND, OR, XOR and TEST
combined_worked : (w : Width) (scene : Environment) (operator : BinOp) (outcome : ℕ × Flags)
    → binary_value operator (bits_of w) (scene.values (left_place w)) (scene.values (right_place w)) ≡ outcome.0
    → outcome.0 < limit_of w → outcome.1 ≡ result_flags w outcome.0 false false
    → Working w outcome (executed (combining w operator) scene)
unfolding result_flags
combined_worked byte_width scene operator outcome e small flags =
    worked byte_width scene (at_width operator byte_width (left byte_width) (right byte_width)) (bit 0)
    (sign byte_width (result byte_width))
    (is_zero byte_width (result byte_width)) (bit 0) outcome e
    (ap (λ (f : Flags). from_bool f.of) (sym flags))
    (sign_flag byte_width _ outcome e small (ap (λ (f : Flags). f.sf) (sym flags)))
    (zero_flag _ outcome e (ap (λ (f : Flags). f.zf) (sym flags)))
    (ap (λ (f : Flags). from_bool f.cf) (sym flags))
combined_worked word_width scene operator outcome e small flags =
    worked word_width scene (at_width operator word_width (left word_width) (right word_width)) (bit 0)
    (sign word_width (result word_width))
    (is_zero word_width (result word_width)) (bit 0) outcome e
    (ap (λ (f : Flags). from_bool f.of) (sym flags))
    (sign_flag word_width _ outcome e small (ap (λ (f : Flags). f.sf) (sym flags)))
    (zero_flag _ outcome e (ap (λ (f : Flags). f.zf) (sym flags)))
    (ap (λ (f : Flags). from_bool f.cf) (sym flags))

and_below : (w : Width) (a b : ℕ) → a < limit_of w → bit_and a b < limit_of w
and_below w a b first = let less = and_le_l a b in omega (arith, less, first)

-- the result and the flags of an operation
abbrev pub alu_outcome : Alu → Width → ℕ → ℕ → Bool → ℕ × Flags
alu_outcome Add w a b c = sum_of w a b false
alu_outcome Or w a b c = disjunction_of w a b
alu_outcome Adc w a b c = sum_of w a b c
alu_outcome Sbb w a b c = difference_of w a b c
alu_outcome And w a b c = conjunction_of w a b
alu_outcome Sub w a b c = difference_of w a b false
alu_outcome Xor w a b c = exclusive_of w a b
alu_outcome Cmp w a b c = difference_of w a b false
alu_outcome Test w a b c = conjunction_of w a b

pub alu_worked : (operation : Alu) (w : Width) (c : Bool) (scene : Environment) → scene.values (Flag Cf) ≡ from_bool c
    → scene.values (left_place w) < limit_of w → scene.values (right_place w) < limit_of w
    → Working w (alu_outcome operation w (scene.values (left_place w)) (scene.values (right_place w)) c)
    (executed (alu_working operation w) scene)
unfolding conjunction_of disjunction_of exclusive_of
alu_worked Add w c scene carry first second = sum_worked w scene first second
alu_worked Or w c scene carry first second =
    combined_worked w scene OrOp (disjunction_of w (scene.values (left_place w)) (scene.values (right_place w))) refl
    (or_lt (bits_of w) _ _ first second) refl
alu_worked Adc w c scene carry first second = sum_with_carry_worked w c scene carry first second
alu_worked Sbb w c scene carry first second = difference_with_borrow_worked w c scene carry first second
alu_worked And w c scene carry first second =
    combined_worked w scene AndOp (conjunction_of w (scene.values (left_place w)) (scene.values (right_place w))) refl
    (and_below w _ _ first) refl
alu_worked Sub w c scene carry first second = difference_worked w scene first second
alu_worked Xor w c scene carry first second =
    combined_worked w scene XorOp (exclusive_of w (scene.values (left_place w)) (scene.values (right_place w))) refl
    (xor_lt (bits_of w) _ _ first second) refl
alu_worked Cmp w c scene carry first second = difference_worked w scene first second
alu_worked Test w c scene carry first second =
    combined_worked w scene AndOp (conjunction_of w (scene.values (left_place w)) (scene.values (right_place w))) refl
    (and_below w _ _ first) refl

-- the statements of an operation on two operands are on temporaries and flags
pub alu_scratch : (operation : Alu) (w : Width) → list_all sets_scratch (alu_working operation w) ≡ true
alu_scratch Add byte_width = refl
alu_scratch Add word_width = refl
alu_scratch Or byte_width = refl
alu_scratch Or word_width = refl
alu_scratch Adc byte_width = refl
alu_scratch Adc word_width = refl
alu_scratch Sbb byte_width = refl
alu_scratch Sbb word_width = refl
alu_scratch And byte_width = refl
alu_scratch And word_width = refl
alu_scratch Sub byte_width = refl
alu_scratch Sub word_width = refl
alu_scratch Xor byte_width = refl
alu_scratch Xor word_width = refl
alu_scratch Cmp byte_width = refl
alu_scratch Cmp word_width = refl
alu_scratch Test byte_width = refl
alu_scratch Test word_width = refl

-- The whole.

module _ (R After : Relation) (coupling : IsCoupling R) where
  -- CMP and TEST set the flags alone
  alu_finished : (operation : Alu) (x : Operand) (p : OperandPlace) (a b : ℕ) (s : Machine) (u : State)
      → IsWrittenIf (writes_operand operation) R After s x p
      → Working (operand_width x) (alu_outcome operation (operand_width x) a b s.flags.cf)
      (executed (alu_working operation (operand_width x)) (scene_of u)) → R s u
      → After (alu_step operation (operand_width x) x a b s)
      (execute (alu_working operation (operand_width x) ++ alu_storing operation (operand_width x) p) u)
  alu_finished Add x p a b s u written work rel =
      finished R coupling After s u x p (alu_working Add (operand_width x))
      (alu_outcome Add (operand_width x) a b s.flags.cf) written (alu_scratch Add (operand_width x)) work rel
  alu_finished Or x p a b s u written work rel =
      finished R coupling After s u x p (alu_working Or (operand_width x))
      (alu_outcome Or (operand_width x) a b s.flags.cf) written (alu_scratch Or (operand_width x)) work rel
  alu_finished Adc x p a b s u written work rel =
      finished R coupling After s u x p (alu_working Adc (operand_width x))
      (alu_outcome Adc (operand_width x) a b s.flags.cf) written (alu_scratch Adc (operand_width x)) work rel
  alu_finished Sbb x p a b s u written work rel =
      finished R coupling After s u x p (alu_working Sbb (operand_width x))
      (alu_outcome Sbb (operand_width x) a b s.flags.cf) written (alu_scratch Sbb (operand_width x)) work rel
  alu_finished And x p a b s u written work rel =
      finished R coupling After s u x p (alu_working And (operand_width x))
      (alu_outcome And (operand_width x) a b s.flags.cf) written (alu_scratch And (operand_width x)) work rel
  alu_finished Sub x p a b s u written work rel =
      finished R coupling After s u x p (alu_working Sub (operand_width x))
      (alu_outcome Sub (operand_width x) a b s.flags.cf) written (alu_scratch Sub (operand_width x)) work rel
  alu_finished Xor x p a b s u written work rel =
      finished R coupling After s u x p (alu_working Xor (operand_width x))
      (alu_outcome Xor (operand_width x) a b s.flags.cf) written (alu_scratch Xor (operand_width x)) work rel
  alu_finished Cmp x p a b s u follows work rel =
      follows _ _ (worked_on R coupling (alu_working Cmp (operand_width x)) s u
      (difference_of (operand_width x) a b false).1 (alu_scratch Cmp (operand_width x)) work.flags rel)
  alu_finished Test x p a b s u follows work rel =
      follows _ _ (worked_on R coupling (alu_working Test (operand_width x)) s u
      (conjunction_of (operand_width x) a b).1 (alu_scratch Test (operand_width x)) work.flags rel)

  pub alu_performed : (operation : Alu) (a b : Operand) (p q : OperandPlace) (s : Machine) (t : State) → AreOperands a b
      → IsRead R s a p → IsRead R s b q
      → IsWrittenIf (writes_operand operation) R After s a p → R s t
      → After (alu_step operation (operand_width a) a (operand_value s a) (operand_value s b) s)
      (execute (alu_stmts operation (operand_width a) p q) t)
  alu_performed operation a b p q s t are first second written rel =
      let w = operand_width a in
      let m = operand_value s a in
      let n = operand_value s b in
      let u = execute (operands_taking w p q) t in
      let hold : Holding R w s u m n = both_took R coupling s t w a b p q first second refl (sym are.widths) rel in
      let below : m < limit_of w = first.small s.flags t rel in
      let less : n < limit_of w = subst (λ v. n < limit_of v) (sym are.widths) (second.small s.flags t rel) in
      let work : Working w (alu_outcome operation w m n s.flags.cf) (executed (alu_working operation w) (scene_of u))
      = subst
      (λ v. Working w (alu_outcome operation w v n s.flags.cf) (executed (alu_working operation w) (scene_of u)))
      hold.left
      (subst (λ v. Working w (alu_outcome operation w (u.running.values (left_place w)) v s.flags.cf)
      (executed (alu_working operation w) (scene_of u))) hold.right
      (alu_worked operation w s.flags.cf (scene_of u) (coupling.flags s u hold.stands).carry
      (subst (λ v. v < limit_of w) (sym hold.left) below)
      (subst (λ v. v < limit_of w) (sym hold.right) less))) in
      subst (After (alu_step operation w a m n s))
      (sym (execute-append (operands_taking w p q) (alu_working operation w ++ alu_storing operation w p) t))
      (alu_finished operation a p m n s u written work hold.stands)
