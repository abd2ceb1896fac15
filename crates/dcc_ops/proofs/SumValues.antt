-- Sums and differences, and their flags, as the statements compute them, are those of the operations.
use Rattle.std.proofs.Common.{arith, ◌≡◌, sym, ap, refl, ℕ, ◌+◌, ◌-◌, ◌/◌, ◌%◌, ◌^◌, ◌<◌, Bool, true, false, not, ◌&&◌, ◌||◌, nat_le, nat_lt, ℤ, pos, ◌+ℤ◌, ◌-ℤ◌}
use Rattle.std.specs.Prelude.{int_lt, int_le, bit_and, bit_or, bit_xor, if◌then◌else◌, ◌==◌}
use Rattle.std.specs.Int.{from_bool}
use Rattle.std.proofs.lemmas.Int.{ints}
use Rattle.std.proofs.lemmas.Bool.Decides.{nat_tests}
use Rattle.dcc_num.specs.declared.Width.{Width}
use Rattle.dcc_num.specs.declared.Width.TheVariants.{Byte, Word}
use Rattle.dcc_num.specs.Numbers.{bits_of, limit_of, has_sign, differ, result_flags, signed_of, fits_signed}
use Rattle.dcc_num.specs.Sum.{sum_of, difference_of}
use Rattle.dcc_num.proofs.Differences.{Stands, stands, differences_compare}
use Rattle.dcc_ir.specs.Value.{signed_at}

-- One bit.

pub xor_bits : (p q : Bool) → bit_xor (from_bool p) (from_bool q) ≡ from_bool (differ p q)
xor_bits true true = refl
xor_bits true false = refl
xor_bits false true = refl
xor_bits false false = refl

pub and_bits : (p q : Bool) → bit_and (from_bool p) (from_bool q) ≡ from_bool (p && q)
and_bits true true = refl
and_bits true false = refl
and_bits false true = refl
and_bits false false = refl

pub or_bits : (p q : Bool) → bit_or (from_bool p) (from_bool q) ≡ from_bool (p || q)
or_bits true true = refl
or_bits true false = refl
or_bits false true = refl
or_bits false false = refl

pub not_bit : (p : Bool) → 2 ^ 1 - 1 - from_bool p ≡ from_bool (not p)
not_bit true = refl
not_bit false = refl

-- the bit tells which of two values is taken
pub chosen : (p : Bool) (m n : ℕ) → (if from_bool p == 1 then m else n) ≡ (if p then m else n)
chosen true m n = refl
chosen false m n = refl

-- the sign bit
pub sign_value : (w : Width) (a : ℕ) → a < limit_of w → a / 2 ^ (bits_of w - 1) % 2 ^ 1 ≡ from_bool (has_sign w a)
sign_value Byte a small = grind (arith, nat_tests)
sign_value Word a small = grind (arith, nat_tests)

below : (w : Width) (n : ℕ) → n % limit_of w < limit_of w
below Byte n = omega arith
below Word n = omega arith

-- Sums.

pub sum_result : (w : Width) (a b : ℕ) → (a + b) % 2 ^ bits_of w ≡ (sum_of w a b false).0
unfolding sum_of
sum_result w a b = ap (λ n. n % limit_of w) (omega arith)

pub sum_with_carry : (w : Width) (a b : ℕ) (c : Bool)
    → ((a + b) % 2 ^ bits_of w + from_bool c) % 2 ^ bits_of w ≡ (sum_of w a b c).0
unfolding sum_of
sum_with_carry Byte a b c = omega arith
sum_with_carry Word a b c = omega arith

pub sum_below : (w : Width) (a b : ℕ) (c : Bool) → (sum_of w a b c).0 < limit_of w
unfolding sum_of
sum_below w a b c = below w (a + b + from_bool c)

pub sum_carry : (w : Width) (a b : ℕ) → a < limit_of w → b < limit_of w
    → nat_lt (sum_of w a b false).0 a ≡ (sum_of w a b false).1.cf
unfolding sum_of result_flags
sum_carry Byte a b first second = grind (arith, nat_tests)
sum_carry Word a b first second = grind (arith, nat_tests)

pub sum_carry_of_both : (w : Width) (a b : ℕ) (c : Bool) → a < limit_of w → b < limit_of w
    → (if c then nat_le (sum_of w a b c).0 a else nat_lt (sum_of w a b c).0 a) ≡ (sum_of w a b c).1.cf
unfolding sum_of result_flags
sum_carry_of_both Byte a b true first second = grind (arith, nat_tests)
sum_carry_of_both Byte a b false first second = grind (arith, nat_tests)
sum_carry_of_both Word a b true first second = grind (arith, nat_tests)
sum_carry_of_both Word a b false first second = grind (arith, nat_tests)

pub sum_sign : (w : Width) (a b : ℕ) (c : Bool) → has_sign w (sum_of w a b c).0 ≡ (sum_of w a b c).1.sf
unfolding sum_of result_flags
sum_sign w a b c = refl

pub sum_zero : (w : Width) (a b : ℕ) (c : Bool) → ((sum_of w a b c).0 == 0) ≡ (sum_of w a b c).1.zf
unfolding sum_of result_flags
sum_zero w a b c = refl

-- the signs of both operands differ from that of the sum exactly where the sum of the signed numbers does not fit
sum_overflows : (w : Width) (a b : ℕ) (c : Bool) (x y : ℤ) → a < limit_of w → b < limit_of w → Stands w a x
    → Stands w b y
    → (differ (has_sign w a) (has_sign w ((a + b + from_bool c) % limit_of w)) && differ (has_sign w b)
    (has_sign w ((a + b + from_bool c) % limit_of w)))
    ≡ not (fits_signed w (x +ℤ y +ℤ pos (from_bool c)))
unfolding fits_signed
sum_overflows Byte a b c x y first second p q =
    grind (arith, ints, nat_tests, p.value, q.value, p.range.low, p.range.high, q.range.low, q.range.high)
sum_overflows Word a b c x y first second p q =
    grind (arith, ints, nat_tests, p.value, q.value, p.range.low, p.range.high, q.range.low, q.range.high)

pub sum_overflow_flag : (w : Width) (a b : ℕ) (c : Bool) → a < limit_of w → b < limit_of w
    → (differ (has_sign w a) (has_sign w (sum_of w a b c).0) && differ (has_sign w b) (has_sign w (sum_of w a b c).0))
    ≡ (sum_of w a b c).1.of
unfolding sum_of result_flags
sum_overflow_flag w a b c first second =
    sum_overflows w a b c (signed_of w a) (signed_of w b) first second (stands w a first) (stands w b second)

-- Differences.

pub difference_result : (w : Width) (a b : ℕ) → (a + 2 ^ bits_of w - b) % 2 ^ bits_of w ≡ (difference_of w a b false).0
unfolding difference_of
difference_result w a b = ap (λ n. (a + limit_of w - n) % limit_of w) (omega arith)

pub difference_with_borrow : (w : Width) (a b : ℕ) (c : Bool) → a < limit_of w → b < limit_of w
    → ((a + 2 ^ bits_of w - b) % 2 ^ bits_of w + 2 ^ bits_of w - from_bool c) % 2 ^ bits_of w
    ≡ (difference_of w a b c).0
unfolding difference_of
difference_with_borrow Byte a b true first second = omega arith
difference_with_borrow Byte a b false first second = omega arith
difference_with_borrow Word a b true first second = omega arith
difference_with_borrow Word a b false first second = omega arith

pub difference_below : (w : Width) (a b : ℕ) (c : Bool) → (difference_of w a b c).0 < limit_of w
unfolding difference_of
difference_below w a b c = below w (a + limit_of w - (b + from_bool c))

pub difference_borrow : (w : Width) (a b : ℕ) → a < limit_of w → b < limit_of w
    → nat_lt a b ≡ (difference_of w a b false).1.cf
difference_borrow w a b first second = sym (differences_compare w a b first second).below

pub difference_borrow_of_both : (w : Width) (a b : ℕ) (c : Bool)
    → (if c then nat_le a b else nat_lt a b) ≡ (difference_of w a b c).1.cf
unfolding difference_of result_flags
difference_borrow_of_both w a b true = grind (arith, nat_tests)
difference_borrow_of_both w a b false = grind (arith, nat_tests)

pub difference_sign : (w : Width) (a b : ℕ) (c : Bool)
    → has_sign w (difference_of w a b c).0 ≡ (difference_of w a b c).1.sf
unfolding difference_of result_flags
difference_sign w a b c = refl

pub difference_zero : (w : Width) (a b : ℕ) (c : Bool) → ((difference_of w a b c).0 == 0) ≡ (difference_of w a b c).1.zf
unfolding difference_of result_flags
difference_zero w a b c = refl

pub difference_equal : (w : Width) (a b : ℕ) → a < limit_of w → b < limit_of w
    → (a == b) ≡ (difference_of w a b false).1.zf
difference_equal w a b first second = sym (differences_compare w a b first second).equal

-- the number that the bits stand for is that of both crates
pub signed_same : (w : Width) (a : ℕ) → signed_at (bits_of w) a ≡ signed_of w a
unfolding signed_of
signed_same Byte a = refl
signed_same Word a = refl

-- the comparison of the signed numbers and the sign of the difference differ exactly where the difference does not fit
difference_overflows : (w : Width) (a b : ℕ) (c : Bool) (x y : ℤ) → a < limit_of w → b < limit_of w → Stands w a x
    → Stands w b y
    → differ (if c then int_le x y else int_lt x y) (has_sign w ((a + limit_of w - (b + from_bool c)) % limit_of w))
    ≡ not (fits_signed w (x -ℤ y -ℤ pos (from_bool c)))
unfolding fits_signed
difference_overflows Byte a b true x y first second p q =
    grind (arith, ints, nat_tests, p.value, q.value, p.range.low, p.range.high, q.range.low, q.range.high)
difference_overflows Byte a b false x y first second p q =
    grind (arith, ints, nat_tests, p.value, q.value, p.range.low, p.range.high, q.range.low, q.range.high)
difference_overflows Word a b true x y first second p q =
    grind (arith, ints, nat_tests, p.value, q.value, p.range.low, p.range.high, q.range.low, q.range.high)
difference_overflows Word a b false x y first second p q =
    grind (arith, ints, nat_tests, p.value, q.value, p.range.low, p.range.high, q.range.low, q.range.high)

pub difference_overflow_flag : (w : Width) (a b : ℕ) (c : Bool) → a < limit_of w → b < limit_of w
    → differ (if c then int_le (signed_of w a) (signed_of w b) else int_lt (signed_of w a) (signed_of w b))
    (has_sign w (difference_of w a b c).0) ≡ (difference_of w a b c).1.of
unfolding difference_of result_flags
difference_overflow_flag w a b c first second =
    difference_overflows w a b c (signed_of w a) (signed_of w b) first second (stands w a first) (stands w b second)
