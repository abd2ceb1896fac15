-- Products and quotients as those of the signed and the unsigned numbers.
use Rattle.std.proofs.Common.{arith, ◌≡◌, ◌∙◌, sym, ap, refl, subst, ℕ, zero, suc, ◌+◌, ◌*◌, ◌/◌, ◌%◌, ◌<◌, ◌≤◌, Bool, true, false, not, ◌||◌, cond, nat_eq, nat_le, nat_lt, inl, inr, ℤ, pos, negsuc, neg_ℤ, ◌+ℤ◌, ◌*ℤ◌, ◌⊎◌}
use Rattle.std.specs.Prelude.{unsigned_abs, int_lt, int_div, int_rem, MatchOption, Some, None}
use Rattle.std.proofs.Math.Nat.{div-eq_of_lt, mul-le-mul_right, div-mul-le_self}
use Rattle.std.proofs.Math.IntN.{zero-*ℤ, neg_ℤ-neg_ℤ, neg_ℤ-+ℤ}
use Rattle.std.proofs.lemmas.Int.{ints, unsigned_abs-mul, quot-rem, rem_below}
use Rattle.std.proofs.lemmas.Nat.{div-mul-add, div-add-mod', mod_below, mul-le}
use Rattle.std.proofs.lemmas.Bool.Decides.{nat_tests}
use Rattle.dcc_num.specs.declared.Width.{Width}
use Rattle.dcc_num.specs.declared.Width.TheVariants.{Byte, Word}
use Rattle.dcc_num.specs.Numbers.{bits_of, limit_of, half_of, signed_of, fits_signed, halved_of, wrapped_of}
use Rattle.dcc_num.specs.Product.{product_of, signed_product_of, extension_of}
use Rattle.dcc_num.specs.Quotient.{joined_of, signed_joined_of, division_of, signed_division_of}
use Rattle.dcc_num.specs.Laws.{IsDivision, IsSignedDivision, ProductsAreExact, SignedProductsAreExact, DivisionsAreExact, SignedDivisionsAreExact}
use Rattle.dcc_num.proofs.Steps.{signed_cases}
use Rattle.dcc_num.proofs.Differences.{InRange, in_range, stands, signed_wrapped}

-- ---- products

pub products_exact : ProductsAreExact
unfolding product_of
products_exact w a b first second = record {
  value = div-add-mod' (a * b) (limit_of w);
  needed = ap not (needed w (a * b));
}
  where
    needed : (w : Width) (n : ℕ) → nat_eq (n / limit_of w) 0 ≡ nat_lt n (limit_of w)
    needed Byte n = grind (arith, nat_tests)
    needed Word n = grind (arith, nat_tests)

abs_small : (w : Width) (z : ℤ) → InRange w z → unsigned_abs z ≤ half_of w
abs_small Byte (pos n) p = omega (arith, ints, p.high)
abs_small Byte (negsuc n) p = omega (arith, ints, p.low)
abs_small Word (pos n) p = omega (arith, ints, p.high)
abs_small Word (negsuc n) p = omega (arith, ints, p.low)

-- the upper half of a product of signed operands is in the range
upper_in_range : (w : Width) (z : ℤ) → unsigned_abs z ≤ half_of w * half_of w → InRange w (halved_of z (bits_of w))
upper_in_range Byte (pos n) h = record { low = omega (arith, ints); high = omega (arith, ints) }
upper_in_range Byte (negsuc n) h = record { low = omega (arith, ints); high = omega (arith, ints) }
upper_in_range Word (pos n) h = record { low = omega (arith, ints); high = omega (arith, ints) }
upper_in_range Word (negsuc n) h = record { low = omega (arith, ints); high = omega (arith, ints) }

-- a number by its two halves
halves : (w : Width) (z : ℤ) → halved_of z (bits_of w) *ℤ pos (limit_of w) +ℤ pos (wrapped_of w z) ≡ z
halves Byte (pos n) = omega (arith, ints)
halves Byte (negsuc n) = omega (arith, ints)
halves Word (pos n) = omega (arith, ints)
halves Word (negsuc n) = omega (arith, ints)

-- the upper half is the sign extension of the lower one exactly where the number fits
extension_tells : (w : Width) (z : ℤ) → unsigned_abs z ≤ half_of w * half_of w
    → nat_eq (wrapped_of w (halved_of z (bits_of w))) (extension_of w (wrapped_of w z)) ≡ fits_signed w z
unfolding fits_signed
extension_tells Byte (pos n) h = grind (arith, ints, nat_tests)
extension_tells Byte (negsuc n) h = grind (arith, ints, nat_tests)
extension_tells Word (pos n) h = grind (arith, ints, nat_tests)
extension_tells Word (negsuc n) h = grind (arith, ints, nat_tests)

pub signed_products_exact : SignedProductsAreExact
unfolding signed_product_of
signed_products_exact w a b first second = record {
  value = ap (λ (h : ℤ). h *ℤ pos (limit_of w) +ℤ pos (wrapped_of w z)) (signed_wrapped w (halved_of z (bits_of w)) (upper_in_range w z size)) ∙ halves w z;
  needed = ap not (extension_tells w z size);
}
  where
    x : ℤ
    x = signed_of w a

    y : ℤ
    y = signed_of w b

    z : ℤ
    z = x *ℤ y

    size : unsigned_abs z ≤ half_of w * half_of w
    size = rw (unsigned_abs-mul x y) (mul-le (unsigned_abs x) (unsigned_abs y) (half_of w) (half_of w) (abs_small w x (stands w a first).range) (abs_small w y (stands w b second).range))

-- ---- quotients

pub divisions_exact : DivisionsAreExact
unfolding division_of
divisions_exact w high low by first second = go (nat_eq by 0) (nat_le (limit_of w) (d / by)) refl refl
  where
    d : ℕ
    d = joined_of w high low

    go : (none large : Bool) → nat_eq by 0 ≡ none → nat_le (limit_of w) (d / by) ≡ large
        → MatchOption {T = ℕ × ℕ} (cond (none || large) None (Some (d / by, d % by))) ((by ≡ 0) ⊎ (by * limit_of w ≤ d)) (λ x. IsDivision d by x.0 x.1 × (x.0 < limit_of w))
    go true large e f = inl (grind (arith, nat_tests))
    go false true e f =
        let fits : limit_of w ≤ d / by = grind (arith, nat_tests) in
        let more : limit_of w * by ≤ d / by * by = mul-le-mul_right by fits in
        let most : d / by * by ≤ d = div-mul-le_self d by in
        inr (omega arith)
    go false false e f =
        let some : 0 < by = grind (arith, nat_tests) in
        (record { sum = div-add-mod' d by; small = mod_below d by some }, grind (arith, nat_tests))

-- the remainder has the dividend's sign
remainder_sign : (z d : ℤ) → (int_rem z d ≡ pos 0) ⊎ (int_lt (int_rem z d) (pos 0) ≡ int_lt z (pos 0))
remainder_sign (pos a) d = inr (grind (arith, ints, nat_tests))
remainder_sign (negsuc a) d = go (suc a % unsigned_abs d)
  where
    go : (s : ℕ) → (neg_ℤ (pos s) ≡ pos 0) ⊎ (int_lt (neg_ℤ (pos s)) (pos 0) ≡ true)
    go zero = inl refl
    go (suc s) = inr refl

small_in_range : (w : Width) (z : ℤ) → unsigned_abs z < half_of w → InRange w z
small_in_range Byte (pos n) h = record { low = omega (arith, ints); high = omega (arith, ints) }
small_in_range Byte (negsuc n) h = record { low = omega (arith, ints); high = omega (arith, ints) }
small_in_range Word (pos n) h = record { low = omega (arith, ints); high = omega (arith, ints) }
small_in_range Word (negsuc n) h = record { low = omega (arith, ints); high = omega (arith, ints) }

-- the number of an operand that is not 0 is not 0
some_abs : (w : Width) (a : ℕ) → a < limit_of w → (a ≡ 0 → ⊥) → 0 < unsigned_abs (signed_of w a)
some_abs w a small some = elim (signed_cases w a small) [
  | inl low ↦ rw low.1 (omega arith)
  | inr high ↦ rw high.1 (omega arith)
]

suc_times : (k e : ℕ) → suc k * e ≡ k * e + e
suc_times k e = omega arith

-- only one quotient of a number that is not negative has a remainder that is not negative and smaller than the divisor
positive_once : (m : ℕ) (d q : ℤ) (s : ℕ) → q *ℤ d +ℤ pos s ≡ pos m → s < unsigned_abs d → int_div (pos m) d ≡ q
positive_once m (pos e) (pos k) s h small =
    let whole : k * e + s ≡ m = omega (arith, ints, h) in
    ap pos (ap (λ (n : ℕ). n / e) (sym whole) ∙ div-mul-add k e s small)
positive_once m (pos e) (negsuc k) s h small = absurd (omega (arith, ints, h, suc_times k e))
positive_once m (negsuc e) (pos zero) s h small =
    let none : m / suc e ≡ 0 = div-eq_of_lt (omega (arith, ints, h)) in
    ap (λ (n : ℕ). neg_ℤ (pos n)) none
positive_once m (negsuc e) (pos (suc k)) s h small = absurd (omega (arith, ints, h, suc_times k (suc e)))
positive_once m (negsuc e) (negsuc k) s h small =
    let whole : suc k * suc e + s ≡ m = omega (arith, ints, h) in
    ap (λ (n : ℕ). neg_ℤ (pos n)) (ap (λ (n : ℕ). n / suc e) (sym whole) ∙ div-mul-add (suc k) (suc e) s small)

neg-mul : (q d : ℤ) → neg_ℤ q *ℤ d ≡ neg_ℤ (q *ℤ d)
neg-mul (pos zero) d = zero-*ℤ d ∙ sym (ap neg_ℤ (zero-*ℤ d))
neg-mul (pos (suc k)) (pos e) = refl
neg-mul (pos (suc k)) (negsuc e) = sym (neg_ℤ-neg_ℤ (pos (suc k * suc e)))
neg-mul (negsuc k) (pos e) = sym (neg_ℤ-neg_ℤ (pos (suc k * e)))
neg-mul (negsuc k) (negsuc e) = refl

-- the quotient of a negative number is that of the positive one, turned round
quotient_turned : (m : ℕ) (d : ℤ) → int_div (negsuc m) d ≡ neg_ℤ (int_div (pos (suc m)) d)
quotient_turned m (pos e) = refl
quotient_turned m (negsuc e) = sym (neg_ℤ-neg_ℤ (pos (suc m / suc e)))

-- a remainder by its size, where the dividend is not negative and where it is
up_sign : (m : ℕ) (r : ℤ) → (r ≡ pos 0) ⊎ (int_lt r (pos 0) ≡ int_lt (pos m) (pos 0)) → r ≡ pos (unsigned_abs r)
up_sign m (pos s) e = refl
up_sign m (negsuc s) (inl e) = cc
up_sign m (negsuc s) (inr e) = grind (arith, ints, nat_tests)

down_sign : (m : ℕ) (r : ℤ) → (r ≡ pos 0) ⊎ (int_lt r (pos 0) ≡ int_lt (negsuc m) (pos 0)) → neg_ℤ r ≡ pos (unsigned_abs r)
down_sign m (pos zero) e = refl
down_sign m (pos (suc s)) (inl e) = cc
down_sign m (pos (suc s)) (inr e) = grind (arith, ints, nat_tests)
down_sign m (negsuc s) e = refl

-- only one quotient is rounded towards 0
quotient_once : (z d q r : ℤ) → IsSignedDivision z d q r → int_div z d ≡ q
quotient_once (pos m) d q r p =
    positive_once m d q (unsigned_abs r) (ap (λ (x : ℤ). q *ℤ d +ℤ x) (sym (up_sign m r p.sign)) ∙ p.sum) p.small
quotient_once (negsuc m) d q r p =
    let turned : neg_ℤ q *ℤ d +ℤ pos (unsigned_abs r) ≡ pos (suc m) =
    ap (λ (x : ℤ). neg_ℤ q *ℤ d +ℤ x) (sym (down_sign m r p.sign)) ∙ ap (λ (x : ℤ). x +ℤ neg_ℤ r) (neg-mul q d)
    ∙ sym (neg_ℤ-+ℤ (q *ℤ d) r) ∙ ap neg_ℤ p.sum in
    quotient_turned m d ∙ ap neg_ℤ (positive_once (suc m) d (neg_ℤ q) (unsigned_abs r) turned p.small) ∙ neg_ℤ-neg_ℤ q

pub signed_divisions_exact : SignedDivisionsAreExact
unfolding signed_division_of
signed_divisions_exact w high low by first second third = go (nat_eq by 0) (fits_signed w q) refl refl
  where
    z : ℤ
    z = signed_joined_of w high low

    d : ℤ
    d = signed_of w by

    q : ℤ
    q = int_div z d

    r : ℤ
    r = int_rem z d

    right : (by ≡ 0 → ⊥) → fits_signed w q ≡ true → IsSignedDivision z d (signed_of w (wrapped_of w q)) (signed_of w (wrapped_of w r))
    right some fits =
        let more = some_abs w by third some in
        let small : unsigned_abs r < unsigned_abs d = rem_below z d more in
        let most = abs_small w d (stands w by third).range in
        let quotient = signed_wrapped w q (in_range w q fits) in
        let remainder = signed_wrapped w r (small_in_range w r (omega arith)) in
        let whole : IsSignedDivision z d q r = record { sum = quot-rem z d; small = small; sign = remainder_sign z d } in
        subst (λ (x : ℤ). IsSignedDivision z d x (signed_of w (wrapped_of w r))) (sym quotient) (subst (λ (x : ℤ). IsSignedDivision z d q x) (sym remainder) whole)

    go : (none fits : Bool) → nat_eq by 0 ≡ none → fits_signed w q ≡ fits
        → MatchOption {T = ℕ × ℕ} (cond (none || not fits) None (Some (wrapped_of w q, wrapped_of w r)))
        ((by ≡ 0) ⊎ ((x y : ℤ) → IsSignedDivision z d x y → fits_signed w x ≡ false))
        (λ x. IsSignedDivision z d (signed_of w x.0) (signed_of w x.1))
    go true fits e f = inl (grind (arith, nat_tests))
    go false false e f = inr (λ x y p. ap (fits_signed w) (sym (quotient_once z d x y p)) ∙ f)
    go false true e f = right (grind (arith, nat_tests)) f
