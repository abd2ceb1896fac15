-- The arithmetic of products and sign extensions: the numbers that the operators of the inner language give are those
-- of the machine.
use Rattle.std.proofs.Common.{arith, ◌≡◌, ◌∙◌, refl, sym, ap, subst, inl, inr, ℕ, zero, suc, ◌+◌, ◌-◌, ◌*◌, ◌/◌, ◌%◌, ◌^◌, ◌<◌, ◌≤◌, not, ℤ, pos, negsuc, neg_ℤ, ◌*ℤ◌, nat_eq, nat_lt}
use Rattle.std.specs.Prelude.{unsigned_abs}
use Rattle.std.specs.Int.{from_bool}
use Rattle.std.proofs.lemmas.Bool.Decides.{nat_tests}
use Rattle.std.proofs.lemmas.Nat.{pow_pos, mul-lt, mul-le, mod-mul-add, mul-mod, mul-mod_first, mul-mod_second}
use Rattle.std.proofs.Math.Nat.{mod-eq_of_lt, mul-mod_left, zero-mod, mul-add, add-mul, mul_comm, add-mul-mod_self_right}
use Rattle.dcc_num.specs.declared.Width.{Width}
use Rattle.dcc_num.specs.declared.Width.TheVariants.{Byte, Word}
use Rattle.dcc_num.specs.Numbers.{bits_of, limit_of, residue_of, signed_of, halved_of, wrapped_of, sign_extension_of}
use Rattle.dcc_num.specs.Product.{extension_of}
use Rattle.dcc_num.proofs.Steps.{signed_cases}
use Rattle.dcc_num.proofs.Differences.{wrapped_below}
use Rattle.dcc_ir.specs.Value.{signed_at, pattern_at}
use Rattle.dcc_ops.specs.Expressions.{double}
use Rattle.dcc_ops.proofs.ShiftValues.{signed_is}

-- Without a sign.

-- a product has room in twice the width
pub product_fits : (w : Width) (a b : ℕ) → a < limit_of w → b < limit_of w → a * b % 2 ^ double w ≡ a * b
product_fits Byte a b first second = mod-eq_of_lt (mul-lt a b 256 256 first second)
product_fits Word a b first second = mod-eq_of_lt (mul-lt a b 65536 65536 first second)

pub product_small : (w : Width) (a b : ℕ) → a < limit_of w → b < limit_of w → a * b < 2 ^ double w
product_small Byte a b first second = mul-lt a b 256 256 first second
product_small Word a b first second = mul-lt a b 65536 65536 first second

-- a product needs its upper half where that is not 0
pub needs_half : (w : Width) (p : ℕ) → p < 2 ^ double w
    → from_bool (nat_lt 0 (p / 2 ^ bits_of w % 2 ^ bits_of w)) ≡ from_bool (not (nat_eq (p / limit_of w) 0))
needs_half Byte p small = grind (arith, nat_tests)
needs_half Word p small = grind (arith, nat_tests)

-- Signed.

-- a number that k more make whole stands for -k
negated_is : (m k x q : ℕ) → x + k ≡ q * m → k ≤ m → 0 < m → x % m ≡ residue_of m (neg_ℤ (pos k))
negated_is m zero x q e small some = ap (λ (n : ℕ). n % m) (omega (arith, e)) ∙ mul-mod_left q m ∙ sym (zero-mod m)
negated_is m (suc k) x zero e small some = absurd (omega (arith, e))
negated_is m (suc k) x (suc q) e small some =
    let p : x ≡ q * m + (m - suc k) = omega (arith, e, small, suc_times q m) in
    let below : m - suc k < m = omega arith in
    let less : k % m ≡ k = mod-eq_of_lt (omega arith) in
    ap (λ (n : ℕ). n % m) p ∙ mod-mul-add q m (m - suc k) below ∙ rw less (omega arith)
  where
    suc_times : (m n : ℕ) → suc m * n ≡ m * n + n
    suc_times m n = omega arith

up_down : (m a b : ℕ) → a * suc b ≤ m → suc b ≤ m → 0 < m → a * (m - suc b) % m ≡ residue_of m (neg_ℤ (pos (a * suc b)))
up_down m a b whole small some =
    let e : (m - suc b) + suc b ≡ m = omega arith in
    negated_is m (a * suc b) (a * (m - suc b)) a (sym (mul-add a (m - suc b) (suc b)) ∙ ap (λ (n : ℕ). a * n) e)
    whole some

down_down : (m a b : ℕ) → suc a ≤ m → suc b ≤ m → (m - suc a) * (m - suc b) % m ≡ suc a * suc b % m
down_down m a b first second =
    sym (add-mul-mod_self_right ((m - suc a) * (m - suc b)) (suc b) m)
    ∙ ap (λ (n : ℕ). n % m) (crossed m (m - suc a) (m - suc b) (suc a) (suc b) (omega arith) (omega arith))
    ∙ add-mul-mod_self_right (suc a * suc b) (m - suc a) m
  where
    crossed : (m d e p q : ℕ) → d + p ≡ m → e + q ≡ m → d * e + q * m ≡ p * q + d * m
    crossed m d e p q first second =
        let one : q * m ≡ d * q + p * q = ap (λ (n : ℕ). q * n) (sym first) ∙ mul_comm q (d + p) ∙ add-mul d p q in
        let two : d * m ≡ d * e + d * q = ap (λ (n : ℕ). d * n) (sym second) ∙ mul-add d e q in
        omega (arith, one, two)

-- the product of two patterns is the pattern of the product
pattern_product : (m : ℕ) (x y : ℤ) → unsigned_abs x * unsigned_abs y ≤ m → unsigned_abs x ≤ m → unsigned_abs y ≤ m
    → 0 < m
    → residue_of m x * residue_of m y % m ≡ residue_of m (x *ℤ y)
pattern_product m (pos a) (pos b) whole first second some = sym (mul-mod a b m)
pattern_product m (pos a) (negsuc b) whole first second some =
    let less : b % m ≡ b = mod-eq_of_lt second in
    let e : m - 1 - b ≡ m - suc b = omega arith in
    mul-mod_first a (m - 1 - b % m) m ∙ rw (less, e) (up_down m a b whole second some)
pattern_product m (negsuc a) (pos b) whole first second some =
    let less : a % m ≡ a = mod-eq_of_lt first in
    let e : m - 1 - a ≡ m - suc a = omega arith in
    mul-mod_second (m - 1 - a % m) b m
    ∙ rw (less, e) (ap (λ (n : ℕ). n % m) (mul_comm (m - suc a) b)
    ∙ up_down m b a (subst (λ (n : ℕ). n ≤ m) (mul_comm (suc a) b) whole) first some
    ∙ ap (λ (n : ℕ). residue_of m (neg_ℤ (pos n))) (mul_comm b (suc a)))
pattern_product m (negsuc a) (negsuc b) whole first second some =
    let one : a % m ≡ a = mod-eq_of_lt first in
    let two : b % m ≡ b = mod-eq_of_lt second in
    let e : m - 1 - a ≡ m - suc a = omega arith in
    let f : m - 1 - b ≡ m - suc b = omega arith in
    rw (one, two, e, f) (down_down m a b first second)

-- how great a signed number is
magnitude : (w : Width) (a : ℕ) → a < limit_of w → unsigned_abs (signed_of w a) ≤ limit_of w
magnitude w a small = elim (signed_cases w a small) [
  | inl low ↦ rw low.1 (omega arith)
  | inr high ↦ rw high.1 (down w a)
]
  where
    down : (w : Width) (a : ℕ) → unsigned_abs (negsuc (limit_of w - 1 - a)) ≤ limit_of w
    down Byte a = omega arith
    down Word a = omega arith

pub product_pattern : (w : Width) (a b : ℕ) → a < limit_of w → b < limit_of w
    → pattern_at (double w) (signed_at (bits_of w) a) * pattern_at (double w) (signed_at (bits_of w) b) % 2 ^ double w
    ≡ pattern_at (double w) (signed_of w a *ℤ signed_of w b)
product_pattern w a b first second =
    rw (signed_is w a, signed_is w b)
    (pattern_product (2 ^ double w) (signed_of w a) (signed_of w b) (whole w a b first second) (wide w a first)
    (wide w b second) (pow_pos (double w)))
  where
    square : (w : Width) → limit_of w * limit_of w ≡ 2 ^ double w
    square Byte = refl
    square Word = refl

    whole : (w : Width) (a b : ℕ) → a < limit_of w → b < limit_of w
        → unsigned_abs (signed_of w a) * unsigned_abs (signed_of w b) ≤ 2 ^ double w
    whole w a b first second =
        subst (λ (n : ℕ). unsigned_abs (signed_of w a) * unsigned_abs (signed_of w b) ≤ n) (square w)
        (mul-le (unsigned_abs (signed_of w a)) (unsigned_abs (signed_of w b)) (limit_of w) (limit_of w)
        (magnitude w a first) (magnitude w b second))

    widen : (w : Width) (n : ℕ) → n ≤ limit_of w → n ≤ 2 ^ double w
    widen Byte n h = omega arith
    widen Word n h = omega arith

    wide : (w : Width) (a : ℕ) → a < limit_of w → unsigned_abs (signed_of w a) ≤ 2 ^ double w
    wide w a small = widen w (unsigned_abs (signed_of w a)) (magnitude w a small)

pub pattern_small : (w : Width) (z : ℤ) → pattern_at (double w) z < 2 ^ double w
pattern_small Byte (pos n) = omega arith
pattern_small Byte (negsuc n) = omega arith
pattern_small Word (pos n) = omega arith
pattern_small Word (negsuc n) = omega arith

-- the halves of a pattern of twice the width
pub pattern_low : (w : Width) (z : ℤ) → pattern_at (double w) z % limit_of w ≡ wrapped_of w z
pattern_low Byte (pos n) = omega arith
pattern_low Byte (negsuc n) = omega arith
pattern_low Word (pos n) = omega arith
pattern_low Word (negsuc n) = omega arith

pub pattern_high : (w : Width) (z : ℤ) → pattern_at (double w) z / limit_of w ≡ wrapped_of w (halved_of z (bits_of w))
pattern_high Byte (pos n) = omega arith
pattern_high Byte (negsuc n) = omega arith
pattern_high Word (pos n) = omega arith
pattern_high Word (negsuc n) = omega arith

-- a product of signed numbers needs its upper half where that is not the sign extension of the lower one
pub needs_signed_half : (w : Width) (p : ℕ) → p < 2 ^ double w
    → nat_eq (pattern_at (double w) (signed_at (bits_of w) (p / 2 ^ 0 % 2 ^ bits_of w))) p
    ≡ nat_eq (p / limit_of w) (extension_of w (p % limit_of w))
needs_signed_half Byte p small = grind (arith, nat_tests)
needs_signed_half Word p small = grind (arith, nat_tests)

-- Sign extensions.

pub extended_low : (a : ℕ) → a < 256 → sign_extension_of a % 256 ≡ a
unfolding sign_extension_of
extended_low a small = elim (signed_cases Byte a small) [
  | inl low ↦ rw low.1 (omega (arith, low.0))
  | inr high ↦ rw high.1 (omega (arith, high.0))
]

pub extended_below : (a : ℕ) → sign_extension_of a < 65536
unfolding sign_extension_of
extended_below a = wrapped_below Word (signed_of Byte a)

pub extended_high : (a : ℕ) → pattern_at 16 (signed_at 8 a) ≡ sign_extension_of a
unfolding sign_extension_of signed_of
extended_high a = refl

pub extension_is : (a : ℕ) → a < 65536 → pattern_at 32 (signed_at 16 a) / 65536 ≡ extension_of Word a
extension_is a small = grind (arith, nat_tests)
