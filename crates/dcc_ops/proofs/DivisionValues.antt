-- Divisions on numbers: where the upper half of the dividend is 0, or the sign of the lower half, what the processor
-- gives is the division of the lower half at its width.
use Rattle.std.proofs.Common.{◌≡◌, ◌∙◌, refl, sym, ap, subst, ℕ, zero, suc, ◌-◌, ◌/◌, ◌%◌, ◌<◌, ◌≤◌, Bool, true, false, not, ◌&&◌, ◌||◌, ◌==◌, if◌then◌else◌, nat_eq, nat_le, inl, inr, ℤ, pos, negsuc, neg_ℤ, ◌+ℤ◌, ◌-ℤ◌, ◌*ℤ◌, Option, Some, None, arith, eqb-true}
use Rattle.std.specs.Prelude.{unsigned_abs, int_div, int_rem}
use Rattle.std.proofs.Math.Nat.{div-le_self, div-lt_self}
use Rattle.std.proofs.lemmas.Int.{ints}
use Rattle.std.proofs.lemmas.Bool.Decides.{nat_tests}
use Rattle.dcc_num.specs.declared.Width.{Width}
use Rattle.dcc_num.specs.declared.Width.TheVariants.{Byte as byte_width, Word as word_width}
use Rattle.dcc_num.specs.Numbers.{bits_of, limit_of, half_of, has_sign, signed_of, fits_signed, wrapped_of}
use Rattle.dcc_num.specs.Product.{extension_of}
use Rattle.dcc_num.specs.Quotient.{joined_of, signed_joined_of, division_of, signed_division_of}
use Rattle.dcc_num.proofs.Steps.{signed_cases}
use Rattle.dcc_ir.specs.Value.{signed_at, pattern_at, faults_signed}

-- a test that fails goes
without : (p q : Bool) (x : Option (ℕ × ℕ)) → q ≡ false → (if p || q then None else x) ≡ (if p then None else x)
without p q x e = ap (λ r. if p || r then None else x) e ∙ alone p
  where
    alone : (p : Bool) → (if p || false then None else x) ≡ (if p then None else x)
    alone true = refl
    alone false = refl

-- a quotient is below the limit
not_above : (n a b : ℕ) → a < n → nat_le n (a / b) ≡ false
not_above n a b small = let h = div-le_self a b in grind (arith, nat_tests)

zero_joined : (w : Width) (a : ℕ) → joined_of w 0 a ≡ a
zero_joined byte_width a = omega arith
zero_joined word_width a = omega arith

pub unsigned_is : (w : Width) (a b : ℕ) → a < limit_of w
    → division_of w 0 a b ≡ (if b == 0 then None else Some (a / b, a % b))
unfolding division_of
unsigned_is w a b small =
    ap (λ (n : ℕ). if b == 0 || nat_le (limit_of w) (n / b) then None else Some (n / b, n % b)) (zero_joined w a)
    ∙ without (b == 0) (nat_le (limit_of w) (a / b)) (Some (a / b, a % b)) (not_above (limit_of w) a b small)

-- Signed numbers.

-- the upper half repeats the sign
joined_by : (w : Width) (sign : Bool) (a : ℕ)
    → signed_of w (if sign then limit_of w - 1 else 0) *ℤ pos (limit_of w) +ℤ pos a
    ≡ (if sign then pos a -ℤ pos (limit_of w) else pos a)
unfolding signed_of
joined_by byte_width true a = omega (arith, ints)
joined_by byte_width false a = omega (arith, ints)
joined_by word_width true a = omega (arith, ints)
joined_by word_width false a = omega (arith, ints)

joined_is : (w : Width) (a : ℕ) → signed_joined_of w (extension_of w a) a ≡ signed_of w a
unfolding signed_of
joined_is w a = joined_by w (has_sign w a) a

abs_neg : (n : ℕ) → unsigned_abs (neg_ℤ (pos n)) ≡ n
abs_neg zero = refl
abs_neg (suc n) = refl

-- the size of a quotient
quotient_abs : (z d : ℤ) → unsigned_abs (int_div z d) ≡ unsigned_abs z / unsigned_abs d
quotient_abs (pos a) (pos b) = refl
quotient_abs (pos a) (negsuc b) = abs_neg (a / suc b)
quotient_abs (negsuc a) (pos b) = abs_neg (suc a / b)
quotient_abs (negsuc a) (negsuc b) = refl

-- below half the limit a number fits
small_fits : (w : Width) (z : ℤ) → unsigned_abs z < half_of w → fits_signed w z ≡ true
unfolding fits_signed
small_fits byte_width (pos n) h = grind (arith, ints, nat_tests)
small_fits byte_width (negsuc n) h = grind (arith, ints, nat_tests)
small_fits word_width (pos n) h = grind (arith, ints, nat_tests)
small_fits word_width (negsuc n) h = grind (arith, ints, nat_tests)

-- the sizes of operands
size_below : (w : Width) (a : ℕ) → a < limit_of w → nat_eq a (half_of w) ≡ false
    → unsigned_abs (signed_of w a) < half_of w
size_below w a small other = elim (signed_cases w a small) [
  | inl low ↦ subst (λ z. unsigned_abs z < half_of w) (sym low.1) low.0
  | inr high ↦ subst (λ z. unsigned_abs z < half_of w) (sym high.1) (above w a high.0 other)
]
  where
    above : (v : Width) (a : ℕ) → half_of v ≤ a → nat_eq a (half_of v) ≡ false → suc (limit_of v - 1 - a) < half_of v
    above byte_width a h other = grind (arith, nat_tests)
    above word_width a h other = grind (arith, nat_tests)

size_above : (w : Width) (b : ℕ) → b < limit_of w → nat_eq b 0 ≡ false → nat_eq b 1 ≡ false
    → nat_eq b (limit_of w - 1) ≡ false → 1 < unsigned_abs (signed_of w b)
size_above w b small some one last = elim (signed_cases w b small) [
  | inl low ↦ subst (λ z. 1 < unsigned_abs z) (sym low.1) (below b some one)
  | inr high ↦ subst (λ z. 1 < unsigned_abs z) (sym high.1) (above w b small last)
]
  where
    below : (b : ℕ) → nat_eq b 0 ≡ false → nat_eq b 1 ≡ false → 1 < b
    below b some one = grind (arith, nat_tests)

    above : (v : Width) (b : ℕ) → b < limit_of v → nat_eq b (limit_of v - 1) ≡ false → 1 < suc (limit_of v - 1 - b)
    above byte_width b small last = grind (arith, nat_tests)
    above word_width b small last = grind (arith, nat_tests)

half_below : (n d : ℕ) → 1 < d → 0 < n → n / d < n
half_below n d two some = div-lt_self some two

-- the least number divided
least_size : (w : Width) → unsigned_abs (signed_of w (half_of w)) ≡ half_of w
unfolding signed_of
least_size byte_width = refl
least_size word_width = refl

least_by_one : (w : Width) → fits_signed w (int_div (signed_of w (half_of w)) (signed_of w 1)) ≡ true
unfolding signed_of fits_signed
least_by_one byte_width = refl
least_by_one word_width = refl

least_by_last : (w : Width) → fits_signed w (int_div (signed_of w (half_of w)) (signed_of w (limit_of w - 1))) ≡ false
unfolding signed_of fits_signed
least_by_last byte_width = refl
least_by_last word_width = refl

half_some : (w : Width) → 0 < half_of w
half_some byte_width = omega arith
half_some word_width = omega arith

-- the quotient of two operands fits but for that of the least number by -1
quotient_fits : (w : Width) (a b : ℕ) → a < limit_of w → b < limit_of w → nat_eq b 0 ≡ false
    → fits_signed w (int_div (signed_of w a) (signed_of w b)) ≡ not ((a == half_of w) && (b == limit_of w - 1))
quotient_fits w a b small less some = go (nat_eq a (half_of w)) (nat_eq b (limit_of w - 1)) (nat_eq b 1) refl refl refl
  where
    q : ℤ
    q = int_div (signed_of w a) (signed_of w b)

    go : (least last one : Bool) → nat_eq a (half_of w) ≡ least → nat_eq b (limit_of w - 1) ≡ last → nat_eq b 1 ≡ one
        → fits_signed w q ≡ not (least && last)
    go false last one e f g =
        let size : unsigned_abs (signed_of w a) < half_of w = size_below w a small e in
        let below : unsigned_abs (signed_of w a) / unsigned_abs (signed_of w b) ≤ unsigned_abs (signed_of w a) =
        div-le_self (unsigned_abs (signed_of w a)) (unsigned_abs (signed_of w b)) in
        let bound : unsigned_abs q < half_of w =
        subst (λ n. n < half_of w) (sym (quotient_abs (signed_of w a) (signed_of w b))) (omega arith) in
        small_fits w q bound
    go true true one e f g =
        ap (λ n. fits_signed w (int_div (signed_of w n) (signed_of w b))) (eqb-true a (half_of w) e)
        ∙ ap (λ n. fits_signed w (int_div (signed_of w (half_of w)) (signed_of w n))) (eqb-true b (limit_of w - 1) f)
        ∙ least_by_last w
    go true false true e f g =
        ap (λ n. fits_signed w (int_div (signed_of w n) (signed_of w b))) (eqb-true a (half_of w) e)
        ∙ ap (λ n. fits_signed w (int_div (signed_of w (half_of w)) (signed_of w n))) (eqb-true b 1 g) ∙ least_by_one w
    go true false false e f g =
        let size : unsigned_abs (signed_of w a) ≡ half_of w =
        ap (λ n. unsigned_abs (signed_of w n)) (eqb-true a (half_of w) e) ∙ least_size w in
        let two : 1 < unsigned_abs (signed_of w b) = size_above w b less some g f in
        small_fits w q (subst (λ n. n < half_of w) (sym (quotient_abs (signed_of w a) (signed_of w b)))
        (subst (λ n. n / unsigned_abs (signed_of w b) < half_of w) (sym size)
        (half_below (half_of w) (unsigned_abs (signed_of w b)) two (half_some w))))

-- the fault of signed numbers
fault_is : (w : Width) (a b : ℕ) (z : ℤ) → a < limit_of w → b < limit_of w → z ≡ signed_of w a
    → (nat_eq b 0 || not (fits_signed w (int_div z (signed_of w b)))) ≡ faults_signed (bits_of w) a b
fault_is w a b z small less is = ap (λ y. nat_eq b 0 || not (fits_signed w (int_div y (signed_of w b)))) is
    ∙ go (nat_eq b 0) refl
  where
    not_not : (p : Bool) → not (not p) ≡ p
    not_not true = refl
    not_not false = refl

    go : (none : Bool) → nat_eq b 0 ≡ none
        → (none || not (fits_signed w (int_div (signed_of w a) (signed_of w b))))
        ≡ (none || ((a == half_of w) && (b == limit_of w - 1)))
    go true e = refl
    go false e = ap not (quotient_fits w a b small less e) ∙ not_not ((a == half_of w) && (b == limit_of w - 1))

pub signed_is : (w : Width) (a b : ℕ) → a < limit_of w → b < limit_of w
    → signed_division_of w (extension_of w a) a b
    ≡ (if faults_signed (bits_of w) a b then None
    else Some (
      pattern_at (bits_of w) (int_div (signed_at (bits_of w) a) (signed_at (bits_of w) b)),
      pattern_at
          (bits_of w) (int_rem (signed_at (bits_of w) a) (signed_at (bits_of w) b)),
    ))
unfolding signed_division_of signed_of
signed_is w a b small less =
    ap (λ p. if p then None else Some (
      wrapped_of w (int_div (signed_joined_of w (extension_of w a) a) (signed_of w b)),
      wrapped_of w
          (int_rem (signed_joined_of w (extension_of w a) a) (signed_of w b)),
    ))
    (fault_is w a b (signed_joined_of w (extension_of w a) a) small less (joined_is w a))
    ∙ ap (λ z. if faults_signed (bits_of w) a b then None
    else Some (wrapped_of w (int_div z (signed_of w b)), wrapped_of w (int_rem z (signed_of w b)))) (joined_is w a)

pub pattern_below : (w : Width) (z : ℤ) → pattern_at (bits_of w) z < limit_of w
pattern_below byte_width (pos n) = omega arith
pattern_below byte_width (negsuc n) = omega arith
pattern_below word_width (pos n) = omega arith
pattern_below word_width (negsuc n) = omega arith
