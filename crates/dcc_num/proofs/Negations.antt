-- NEG, INC and DEC as numbers, and sums and differences of two words.
use Rattle.std.proofs.Common.{arith, ◌≡◌, ◌∙◌, refl, ℕ, ◌+◌, ◌-◌, ◌*◌, ◌%◌, ◌<◌, Bool, true, false, not, nat_eq, nat_le, nat_lt, inl, inr, ℤ, pos, neg_ℤ, ◌+ℤ◌, ◌-ℤ◌, ◌⊎◌}
use Rattle.std.specs.Int.{from_bool}
use Rattle.std.proofs.lemmas.Int.{ints}
use Rattle.std.proofs.lemmas.Bool.Decides.{nat_tests}
use Rattle.dcc_num.specs.declared.Width.{Width}
use Rattle.dcc_num.specs.declared.Width.TheVariants.{Byte, Word}
use Rattle.dcc_num.specs.declared.Flags.{Flags}
use Rattle.dcc_num.specs.Numbers.{limit_of, half_of, signed_of, fits_signed, result_flags}
use Rattle.dcc_num.specs.Sum.{sum_of, difference_of, negation_of, increment_of, decrement_of}
use Rattle.dcc_num.specs.Quotient.{joined_of}
use Rattle.dcc_num.specs.Laws.{SumsCarryOn, DifferencesCarryOn, NegationsAreExact, IncrementsAreExact, DecrementsAreExact}
use Rattle.dcc_num.proofs.Differences.{Stands, stands, below, sign_of, sums_exact, differences_exact}

-- m and n stand for the carries
sum_on : (w : Width) (h l g k r s m n : ℕ) → s + m * limit_of w ≡ l + k + 0 → r + n * limit_of w ≡ h + g + m
    → joined_of w r s + n * (limit_of w * limit_of w) ≡ joined_of w h l + joined_of w g k
sum_on Byte h l g k r s m n p q = omega arith
sum_on Word h l g k r s m n p q = omega arith

pub sums_carry : SumsCarryOn
sums_carry w high low high' low' a b c d =
    let lower = sum_of w low low' false in
    let upper = sum_of w high high' lower.1.cf in
    sum_on w high low high' low' upper.0 lower.0 (from_bool lower.1.cf) (from_bool upper.1.cf)
    (sums_exact w low low' false b d).unsigned (sums_exact w high high' lower.1.cf a c).unsigned

difference_on : (w : Width) (h l g k r s m n : ℕ) → s + k + 0 ≡ l + m * limit_of w → r + g + m ≡ h + n * limit_of w
    → joined_of w r s + joined_of w g k ≡ joined_of w h l + n * (limit_of w * limit_of w)
difference_on Byte h l g k r s m n p q = omega arith
difference_on Word h l g k r s m n p q = omega arith

pub differences_carry : DifferencesCarryOn
differences_carry w high low high' low' a b c d =
    let lower = difference_of w low low' false in
    let upper = difference_of w high high' lower.1.cf in
    difference_on w high low high' low' upper.0 lower.0 (from_bool lower.1.cf) (from_bool upper.1.cf)
    (differences_exact w low low' false b d).unsigned (differences_exact w high high' lower.1.cf a c).unsigned

some : (w : Width) → 0 < limit_of w
some Byte = omega arith
some Word = omega arith

one : (w : Width) → 1 < limit_of w
one Byte = omega arith
one Word = omega arith

-- OF by the signed numbers of the operands
negation_passes : (w : Width) (a : ℕ) (x z : ℤ) → Stands w 0 x → Stands w a z → not (fits_signed w (x -ℤ z -ℤ pos 0)) ≡ nat_eq a (half_of w)
unfolding fits_signed
negation_passes Byte a x z p q = grind (arith, ints, nat_tests, p.value, p.range.low, p.range.high, q.value, q.range.low, q.range.high)
negation_passes Word a x z p q = grind (arith, ints, nat_tests, p.value, p.range.low, p.range.high, q.value, q.range.low, q.range.high)

increment_passes : (w : Width) (a : ℕ) (z x : ℤ) → Stands w a z → Stands w 1 x
    → not (fits_signed w (z +ℤ x +ℤ pos 0)) ≡ nat_eq ((a + 1 + 0) % limit_of w) (half_of w)
unfolding fits_signed
increment_passes Byte a z x p q = grind (arith, ints, nat_tests, p.value, p.range.low, p.range.high, q.value, q.range.low, q.range.high)
increment_passes Word a z x p q = grind (arith, ints, nat_tests, p.value, p.range.low, p.range.high, q.value, q.range.low, q.range.high)

decrement_passes : (w : Width) (a : ℕ) (z x : ℤ) → Stands w a z → Stands w 1 x → not (fits_signed w (z -ℤ x -ℤ pos 0)) ≡ nat_eq a (half_of w)
unfolding fits_signed
decrement_passes Byte a z x p q = grind (arith, ints, nat_tests, p.value, p.range.low, p.range.high, q.value, q.range.low, q.range.high)
decrement_passes Word a z x p q = grind (arith, ints, nat_tests, p.value, p.range.low, p.range.high, q.value, q.range.low, q.range.high)

pub negations_exact : NegationsAreExact
unfolding negation_of difference_of result_flags
negations_exact w a small = record {
  whole = whole w a small;
  carry = grind (arith, nat_tests);
  overflow = negation_passes w a (signed_of w 0) (signed_of w a) (stands w 0 (some w)) (stands w a small);
  signed = λ e. (differences_exact w 0 a false (some w) small).signed.within e ∙ negative w (signed_of w 0) (signed_of w a) (stands w 0 (some w));
  result = (differences_exact w 0 a false (some w) small).result;
}
  where
    whole : (w : Width) (a : ℕ) → a < limit_of w → (0 + limit_of w - (a + 0)) % limit_of w + a ≡ from_bool (nat_lt 0 (a + 0)) * limit_of w
    whole Byte a small = grind (arith, nat_tests)
    whole Word a small = grind (arith, nat_tests)

    negative : (w : Width) (x z : ℤ) → Stands w 0 x → x -ℤ z -ℤ pos 0 ≡ neg_ℤ z
    negative Byte x z p = grind (arith, ints, p.value, p.range.low, p.range.high)
    negative Word x z p = grind (arith, ints, p.value, p.range.low, p.range.high)

pub increments_exact : IncrementsAreExact
unfolding increment_of sum_of result_flags
increments_exact w a was small = record {
  value = value w a small;
  carry = refl;
  overflow = increment_passes w a (signed_of w a) (signed_of w 1) (stands w a small) (stands w 1 (one w));
  result = record { zero = refl; negative = sign_of w ((a + 1 + 0) % limit_of w) (below w (a + 1 + 0)) };
}
  where
    value : (w : Width) (a : ℕ) → a < limit_of w → ((a + 1 + 0) % limit_of w ≡ a + 1) ⊎ ((a + 1 ≡ limit_of w) × ((a + 1 + 0) % limit_of w ≡ 0))
    value Byte a small = grind arith
    value Word a small = grind arith

pub decrements_exact : DecrementsAreExact
unfolding decrement_of difference_of result_flags
decrements_exact w a was small = record {
  value = value w a small;
  carry = refl;
  overflow = decrement_passes w a (signed_of w a) (signed_of w 1) (stands w a small) (stands w 1 (one w));
  result = record { zero = refl; negative = sign_of w ((a + limit_of w - (1 + 0)) % limit_of w) (below w (a + limit_of w - (1 + 0))) };
}
  where
    value : (w : Width) (a : ℕ) → a < limit_of w
        → ((a + limit_of w - (1 + 0)) % limit_of w + 1 ≡ a) ⊎ ((a ≡ 0) × ((a + limit_of w - (1 + 0)) % limit_of w + 1 ≡ limit_of w))
    value Byte a small = grind arith
    value Word a small = grind arith
