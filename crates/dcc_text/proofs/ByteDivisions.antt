-- Divisions of signed bytes, with the dividend times 256.
use Rattle.std.proofs.Common.{◌≡◌, ℕ, zero, suc, ◌+◌, ◌-◌, ◌*◌, ◌/◌, ◌%◌, ◌<◌, ◌≤◌, inl, inr, Bool, true, false, refl, sym, ap, ap₂, ◌∙◌, arith}
use Rattle.std.specs.Prelude.{not, if◌then◌else◌}
use Rattle.std.proofs.lemmas.Bool.{cases_lt, le-leb, lt-leb}
use Rattle.std.proofs.lemmas.Bool.Decides.{nat_tests}
use Rattle.std.proofs.lemmas.Nat.{mul-mod_first, div-add-mod'}
use Rattle.std.proofs.Math.Nat.{div-le_self, div-div-eq-div-mul, mul-div-mul_right, add-mul, div-lt_iff_lt-mul}
use Rattle.dcc_ir.specs.Value.{faults_signed}
use Rattle.dcc_c.specs.declared.syntax.Base.TheVariants.{Int}
use Rattle.dcc_c.specs.Types.{is_negative}
use Rattle.dcc_c.specs.Arithmetic.{negated, with_sign, difference, quotient, remainder}
use Rattle.dcc_text.proofs.Sizes.{byte}
use Rattle.dcc_text.proofs.Signs.{signed_bits, positive, negative, sign-of}
use Rattle.dcc_text.proofs.Shifts.{above, below}
use Rattle.dcc_text.proofs.Divisions.{by-signs, rest-by-signs}

-- An int divided by 256, by its sign and size.
by-256 : (down : Bool) (q : ℕ) → q ≤ 32768 → (down ≡ false → q < 32768) → quotient Int (with_sign down Int q) 256 ≡ with_sign down Int (q / 256)
by-256 false q few less = by-signs Int q 256 false false (lt-leb 32768 q (less refl)) refl
by-256 true zero few less = refl
by-256 true (suc q) few less =
    let e : negated Int (suc q) ≡ 65535 - q = omega (arith, few) in
    ap (λ k. quotient Int k 256) e
    ∙ by-signs Int (65535 - q) 256 true false (le-leb 32768 (65535 - q) (omega (arith, few))) refl
    ∙ ap (λ k. negated Int (k / 256)) (let f : 65536 - (65535 - q) ≡ suc q = omega (arith, few) in f)

times-256 : (u d : ℕ) → u * 256 / d / 256 ≡ u / d
times-256 u d = div-div-eq-div-mul (u * 256) d 256 ∙ mul-div-mul_right {m = 256} u d (omega arith)

-- The quotient by the dividend times 256, from the signs and sizes of what is divided.
quotient-by : (p r : Bool) (w x m u d : ℕ) → is_negative Int w ≡ p → is_negative Int x ≡ p → is_negative Int m ≡ r → (if p then 65536 - w else w) ≡ u * 256
    → (if p then 65536 - x else x) ≡ u → (if r then 65536 - m else m) ≡ d → u * 256 / d ≤ 32768 → (not (if p then r else not r) ≡ false → u * 256 / d < 32768)
    → quotient Int (quotient Int w m) 256 ≡ quotient Int x m
quotient-by p r w x m u d w_sign x_sign m_sign w_size x_size m_size few less =
    let down = not (if p then r else not r) in
    ap (λ k. quotient Int k 256) (by-signs Int w m p r w_sign m_sign ∙ ap₂ (λ a b. with_sign down Int (a / b)) w_size m_size)
    ∙ by-256 down (u * 256 / d) few less
    ∙ ap (with_sign down Int) (times-256 u d)
    ∙ sym (by-signs Int x m p r x_sign m_sign ∙ ap₂ (λ a b. with_sign down Int (a / b)) x_size m_size)

-- the size of a byte that stands for a number below 0
size-is : (n : ℕ) → n < 256 → 65536 - (n + 65280) ≡ 256 - n
size-is n fits = omega (arith, fits)

scaled-size : (n : ℕ) → n < 256 → 65536 - n * 256 ≡ (256 - n) * 256
scaled-size n fits = omega (arith, fits)

pub byte-quotient : (n m : ℕ) → n < 256 → m < 256 → faults_signed 8 n m ≡ false
    → quotient Int (quotient Int (n * 256) (signed_bits byte m)) 256 ≡ quotient Int (signed_bits byte n) (signed_bits byte m)
byte-quotient n m fits small safe = elim (sign-of byte n fits) [
  | positive low is same ↦ elim (sign-of byte m small) [
    | positive low' is' same' ↦
        rw same (rw same' (quotient-by false false (n * 256) n m n m (lt-leb 32768 (n * 256) (omega (arith, low))) (above byte n low) (above byte m low') refl refl refl
        (omega (arith, low, div-le_self (n * 256) m)) (λ up. omega (arith, low, div-le_self (n * 256) m))))
    | negative high' is' same' ↦
        rw same (rw same' (quotient-by false true (n * 256) n (m + 65280) n (256 - m) (lt-leb 32768 (n * 256) (omega (arith, low))) (above byte n low) (below byte m high') refl refl (size-is m small)
        (omega (arith, low, div-le_self (n * 256) (256 - m))) (λ up. omega (arith, low, div-le_self (n * 256) (256 - m)))))
  ]
  | negative high is same ↦ elim (sign-of byte m small) [
    | positive low' is' same' ↦
        rw same (rw same' (quotient-by true false (n * 256) (n + 65280) m (256 - n) m (le-leb 32768 (n * 256) (omega (arith, high))) (below byte n high) (above byte m low') (scaled-size n fits) (size-is n fits) refl
        (omega (arith, high, div-le_self ((256 - n) * 256) m)) (λ up. absurd cc)))
    | negative high' is' same' ↦
        rw same (rw same' (quotient-by true true (n * 256) (n + 65280) (m + 65280) (256 - n) (256 - m) (le-leb 32768 (n * 256) (omega (arith, high))) (below byte n high) (below byte m high') (scaled-size n fits) (size-is n fits) (size-is m small)
        (omega (arith, high, div-le_self ((256 - n) * 256) (256 - m))) (λ up. both_below high)))
  ]
]
  where
    both_below : 128 ≤ n → (256 - n) * 256 / (256 - m) < 32768
    both_below high = elim (cases_lt (256 - m) 2) [
      | inl one ↦ grind (arith, nat_tests)
      | inr more ↦ (div-lt_iff_lt-mul (omega (arith, more))).1 (omega (arith, high, more))
    ]

-- The remainder as what is left of the dividend.

-- products with numbers below 0, among the ints
minus-first : (a b : ℕ) → a ≤ 65536 → (65536 - a) * b + a * b ≡ 65536 * b
minus-first a b few = sym (add-mul (65536 - a) a b) ∙ ap (λ k. k * b) (let f : 65536 - a + a ≡ 65536 = omega (arith, few) in f)

minus-second : (a b : ℕ) → b ≤ 65536 → a * (65536 - b) + a * b ≡ 65536 * a
minus-second a b few = omega (arith, minus-first b a few)

rest-with : (p r : Bool) (u d : ℕ) → u ≤ 128 → d ≤ 128 → (u / d) * d + u % d ≡ u
    → difference Int (if p then 65536 - u else u) (with_sign (not (if p then r else not r)) Int (u / d) * (if r then 65536 - d else d) % 65536) ≡ with_sign p Int (u % d)
rest-with false false u d few small whole = rest-up u (u / d * d) (u % d) few whole
  where
    rest-up : (u w t : ℕ) → u ≤ 128 → w + t ≡ u → difference Int u (w % 65536) ≡ t
    rest-up u w t few whole = omega (arith, few, whole)
rest-with false true u d few small whole =
    ap (difference Int u) (mul-mod_first (65536 - u / d) (65536 - d) 65536)
    ∙ rest-up u (u / d) (65536 - d) (u / d * d) (u % d) ((65536 - u / d) * (65536 - d)) (u / d * (65536 - d)) few
    (minus-first (u / d) (65536 - d) (omega (arith, few, div-le_self u d))) (minus-second (u / d) d (omega (arith, small))) whole
  where
    rest-up : (u q m w t big other : ℕ) → u ≤ 128 → big + other ≡ 65536 * m → other + w ≡ 65536 * q → w + t ≡ u → difference Int u (big % 65536) ≡ t
    rest-up u q m w t big other few first second whole = omega (arith, few, first, second, whole)
rest-with true false u d few small whole =
    ap (difference Int (65536 - u)) (mul-mod_first (65536 - u / d) d 65536)
    ∙ rest-down u d (u / d * d) (u % d) ((65536 - u / d) * d) few (minus-first (u / d) d (omega (arith, few, div-le_self u d))) whole
  where
    rest-down : (u d w t big : ℕ) → u ≤ 128 → big + w ≡ 65536 * d → w + t ≡ u → difference Int (65536 - u) (big % 65536) ≡ negated Int t
    rest-down u d w t big few first whole = omega (arith, few, first, whole)
rest-with true true u d few small whole =
    rest-down u (u / d) (u / d * d) (u % d) (u / d * (65536 - d)) few (minus-second (u / d) d (omega (arith, small))) whole
  where
    rest-down : (u q w t big : ℕ) → u ≤ 128 → big + w ≡ 65536 * q → w + t ≡ u → difference Int (65536 - u) (big % 65536) ≡ negated Int t
    rest-down u q w t big few first whole = omega (arith, few, first, whole)

rest-by : (p r : Bool) (x m u d : ℕ) → is_negative Int x ≡ p → is_negative Int m ≡ r → x ≡ (if p then 65536 - u else u) → m ≡ (if r then 65536 - d else d)
    → (if p then 65536 - x else x) ≡ u → (if r then 65536 - m else m) ≡ d → u ≤ 128 → d ≤ 128 → difference Int x (quotient Int x m * m % 65536) ≡ remainder Int x m
rest-by p r x m u d x_sign m_sign x_is m_is x_size m_size few small =
    ap₂ (λ a b. difference Int a (b % 65536)) x_is
    (ap₂ (λ a b. a * b) (by-signs Int x m p r x_sign m_sign ∙ ap₂ (λ a b. with_sign (not (if p then r else not r)) Int (a / b)) x_size m_size) m_is)
    ∙ rest-with p r u d few small (div-add-mod' u d)
    ∙ sym (rest-by-signs Int x m p r x_sign m_sign ∙ ap₂ (λ a b. with_sign p Int (a % b)) x_size m_size)

pub byte-remainder : (n m : ℕ) → n < 256 → m < 256
    → difference Int (signed_bits byte n) (quotient Int (signed_bits byte n) (signed_bits byte m) * signed_bits byte m % 65536) ≡ remainder Int (signed_bits byte n) (signed_bits byte m)
byte-remainder n m fits small = elim (sign-of byte n fits) [
  | positive low is same ↦ elim (sign-of byte m small) [
    | positive low' is' same' ↦
        rw same (rw same' (rest-by false false n m n m (above byte n low) (above byte m low') refl refl refl refl (omega (arith, low)) (omega (arith, low'))))
    | negative high' is' same' ↦
        rw same (rw same' (rest-by false true n (m + 65280) n (256 - m) (above byte n low) (below byte m high') refl (omega (arith, small)) refl (size-is m small) (omega (arith, low)) (omega (arith, high'))))
  ]
  | negative high is same ↦ elim (sign-of byte m small) [
    | positive low' is' same' ↦
        rw same (rw same' (rest-by true false (n + 65280) m (256 - n) m (below byte n high) (above byte m low') (omega (arith, fits)) refl (size-is n fits) refl (omega (arith, high)) (omega (arith, low'))))
    | negative high' is' same' ↦
        rw same (rw same' (rest-by true true (n + 65280) (m + 65280) (256 - n) (256 - m) (below byte n high) (below byte m high') (omega (arith, fits)) (omega (arith, small)) (size-is n fits) (size-is m small)
        (omega (arith, high)) (omega (arith, high'))))
  ]
]
