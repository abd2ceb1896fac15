-- Sums, differences and comparisons as those of the signed and the unsigned numbers.
use Rattle.std.proofs.Common.{arith, ◌≡◌, ◌∙◌, ap, refl, ℕ, ◌+◌, ◌-◌, ◌*◌, ◌%◌, ◌<◌, ◌≤◌, Bool, true, false, not, nat_eq, nat_le, nat_lt, inl, inr, ℤ, pos, negsuc, neg_ℤ, ◌+ℤ◌, ◌-ℤ◌, ◌≤ℤ◌, ◌<ℤ◌, ◌⊎◌}
use Rattle.std.specs.Prelude.{int_lt}
use Rattle.std.specs.Int.{from_bool}
use Rattle.std.proofs.lemmas.Int.{ints}
use Rattle.std.proofs.lemmas.Bool.Decides.{nat_tests}
use Rattle.dcc_num.specs.declared.Width.{Width}
use Rattle.dcc_num.specs.declared.Width.TheVariants.{Byte, Word}
use Rattle.dcc_num.specs.Numbers.{limit_of, half_of, has_sign, differ, result_flags, signed_of, fits_signed, wrapped_of, sign_extension_of}
use Rattle.dcc_num.specs.Sum.{sum_of, difference_of}
use Rattle.dcc_num.specs.Laws.{TellsResult, IsOutside, TellsOverflow, SumsAreExact, DifferencesAreExact, DifferencesCompare, SignExtensionsAreExact}
use Rattle.dcc_num.proofs.Steps.{signed_cases}

-- a number of the width is in its range
pub record InRange (w : Width) (z : ℤ) : Type 0 where
  pub low : neg_ℤ (pos (half_of w)) ≤ℤ z
  pub high : z <ℤ pos (half_of w)

pub in_range : (w : Width) (z : ℤ) → fits_signed w z ≡ true → InRange w z
unfolding fits_signed
in_range Byte z e = record { low = grind (arith, ints); high = grind (arith, ints) }
in_range Word z e = record { low = grind (arith, ints); high = grind (arith, ints) }

pub not_in_range : (w : Width) (z : ℤ) → fits_signed w z ≡ false → InRange w z → ⊥
unfolding fits_signed
not_in_range Byte z e p = grind (arith, ints, p.low, p.high)
not_in_range Word z e p = grind (arith, ints, p.low, p.high)

-- the number of an operand is in the range, and differs from the operand by 0 or by the limit
pub record Stands (w : Width) (a : ℕ) (z : ℤ) : Type 0 where
  pub range : InRange w z
  pub value : (z ≡ pos a) ⊎ (z +ℤ pos (limit_of w) ≡ pos a)

pub stands : (w : Width) (a : ℕ) → a < limit_of w → Stands w a (signed_of w a)
stands w a small = elim (signed_cases w a small) [
  | inl low ↦ rw low.1 (up w a low.0)
  | inr high ↦ rw high.1 (down w a small high.0)
]
  where
    up : (w : Width) (a : ℕ) → a < half_of w → Stands w a (pos a)
    up Byte a small = record { range = record { low = omega (arith, ints); high = omega (arith, ints) }; value = inl refl }
    up Word a small = record { range = record { low = omega (arith, ints); high = omega (arith, ints) }; value = inl refl }

    down : (w : Width) (a : ℕ) → a < limit_of w → half_of w ≤ a → Stands w a (negsuc (limit_of w - 1 - a))
    down Byte a small high = record { range = record { low = omega (arith, ints); high = omega (arith, ints) }; value = inr (omega (arith, ints)) }
    down Word a small high = record { range = record { low = omega (arith, ints); high = omega (arith, ints) }; value = inr (omega (arith, ints)) }

-- only one number of the range stands for the remainder of a sum
sum_once : (w : Width) (a b k : ℕ) (x y z : ℤ) → Stands w a x → Stands w b y → Stands w ((a + b + k) % limit_of w) z → InRange w (x +ℤ y +ℤ pos k) → z ≡ x +ℤ y +ℤ pos k
sum_once Byte a b k x y z p q r in_it = grind (arith, ints, p.value, q.value, r.value, r.range.low, r.range.high, in_it.low, in_it.high)
sum_once Word a b k x y z p q r in_it = grind (arith, ints, p.value, q.value, r.value, r.range.low, r.range.high, in_it.low, in_it.high)

pub below : (w : Width) (n : ℕ) → n % limit_of w < limit_of w
below Byte n = omega arith
below Word n = omega arith

not_true : (b : Bool) → not b ≡ true → b ≡ false
not_true true e = cc
not_true false e = refl

out_of_range : (w : Width) (z : ℤ) → fits_signed w z ≡ false → IsOutside w z
unfolding fits_signed
out_of_range Byte z e = grind (arith, ints)
out_of_range Word z e = grind (arith, ints)

-- the sign bit of an operand is the sign of its number
sign_is : (w : Width) (a : ℕ) (z : ℤ) → a < limit_of w → Stands w a z → has_sign w a ≡ int_lt z (pos 0)
sign_is Byte a z small p = grind (arith, ints, nat_tests, p.value, p.range.low, p.range.high)
sign_is Word a z small p = grind (arith, ints, nat_tests, p.value, p.range.low, p.range.high)

pub sign_of : (w : Width) (r : ℕ) → r < limit_of w → has_sign w r ≡ int_lt (signed_of w r) (pos 0)
sign_of w r small = sign_is w r (signed_of w r) small (stands w r small)

pub tells_result : (w : Width) (r : ℕ) (carry overflow : Bool) → r < limit_of w → TellsResult w r (result_flags w r carry overflow)
unfolding result_flags
tells_result w r carry overflow small = record { zero = refl; negative = sign_of w r small }

not_false : (b : Bool) → not b ≡ false → b ≡ true
not_false true e = refl
not_false false e = cc

pub sums_exact : SumsAreExact
unfolding sum_of result_flags
sums_exact w a b carry first second = record {
  unsigned = whole w a b carry first second;
  signed = record {
    within = λ e. sum_once w a b (from_bool carry) (signed_of w a) (signed_of w b) (signed_of w r)
        (stands w a first) (stands w b second) (stands w r small) (in_range w exact (not_false (fits_signed w exact) e));
    outside = λ e. out_of_range w exact (not_true (fits_signed w exact) e);
  };
  result = tells_result w r (nat_le (limit_of w) (a + b + from_bool carry)) (not (fits_signed w exact)) small;
}
  where
    exact : ℤ
    exact = signed_of w a +ℤ signed_of w b +ℤ pos (from_bool carry)

    r : ℕ
    r = (a + b + from_bool carry) % limit_of w

    small : r < limit_of w
    small = below w (a + b + from_bool carry)

    whole : (w : Width) (a b : ℕ) (carry : Bool) → a < limit_of w → b < limit_of w
        → (a + b + from_bool carry) % limit_of w + from_bool (nat_le (limit_of w) (a + b + from_bool carry)) * limit_of w ≡ a + b + from_bool carry
    whole Byte a b true first second = grind (arith, nat_tests)
    whole Byte a b false first second = grind (arith, nat_tests)
    whole Word a b true first second = grind (arith, nat_tests)
    whole Word a b false first second = grind (arith, nat_tests)

-- only one number of the range stands for an operand
stands_once : (w : Width) (a : ℕ) (x y : ℤ) → Stands w a x → Stands w a y → x ≡ y
stands_once Byte a x y p q = grind (arith, ints, p.value, q.value, p.range.low, p.range.high, q.range.low, q.range.high)
stands_once Word a x y p q = grind (arith, ints, p.value, q.value, p.range.low, p.range.high, q.range.low, q.range.high)

-- the bits of a number fit the width
pub wrapped_below : (w : Width) (z : ℤ) → wrapped_of w z < limit_of w
wrapped_below Byte (pos n) = omega arith
wrapped_below Byte (negsuc n) = omega arith
wrapped_below Word (pos n) = omega arith
wrapped_below Word (negsuc n) = omega arith

wrapped_stands : (w : Width) (z : ℤ) → InRange w z → Stands w (wrapped_of w z) z
wrapped_stands Byte (pos n) p = record { range = p; value = inl (omega (arith, ints, p.high)) }
wrapped_stands Byte (negsuc n) p = record { range = p; value = inr (omega (arith, ints, p.low)) }
wrapped_stands Word (pos n) p = record { range = p; value = inl (omega (arith, ints, p.high)) }
wrapped_stands Word (negsuc n) p = record { range = p; value = inr (omega (arith, ints, p.low)) }

-- the bits of a number of the range stand for it
pub signed_wrapped : (w : Width) (z : ℤ) → InRange w z → signed_of w (wrapped_of w z) ≡ z
signed_wrapped w z p = stands_once w (wrapped_of w z) (signed_of w (wrapped_of w z)) z (stands w (wrapped_of w z) (wrapped_below w z)) (wrapped_stands w z p)

-- ---- differences

difference_at : (w : Width) (a b k n : ℕ) (x y z : ℤ) → n + (b + k) ≡ a + limit_of w → Stands w a x → Stands w b y → Stands w (n % limit_of w) z
    → InRange w (x -ℤ y -ℤ pos k) → z ≡ x -ℤ y -ℤ pos k
difference_at Byte a b k n x y z e p q r in_it = elim p.value [
  | inl u ↦ elim q.value [ inl v ↦ elim r.value [ inl t ↦ omega (arith, ints) | inr t ↦ omega (arith, ints) ] | inr v ↦ elim r.value [ inl t ↦ omega (arith, ints) | inr t ↦ omega (arith, ints) ] ]
  | inr u ↦ elim q.value [ inl v ↦ elim r.value [ inl t ↦ omega (arith, ints) | inr t ↦ omega (arith, ints) ] | inr v ↦ elim r.value [ inl t ↦ omega (arith, ints) | inr t ↦ omega (arith, ints) ] ]
]
difference_at Word a b k n x y z e p q r in_it = elim p.value [
  | inl u ↦ elim q.value [ inl v ↦ elim r.value [ inl t ↦ omega (arith, ints) | inr t ↦ omega (arith, ints) ] | inr v ↦ elim r.value [ inl t ↦ omega (arith, ints) | inr t ↦ omega (arith, ints) ] ]
  | inr u ↦ elim q.value [ inl v ↦ elim r.value [ inl t ↦ omega (arith, ints) | inr t ↦ omega (arith, ints) ] | inr v ↦ elim r.value [ inl t ↦ omega (arith, ints) | inr t ↦ omega (arith, ints) ] ]
]

difference_once : (w : Width) (a b k : ℕ) (x y z : ℤ) → b + k ≤ limit_of w → Stands w a x → Stands w b y → Stands w ((a + limit_of w - (b + k)) % limit_of w) z
    → InRange w (x -ℤ y -ℤ pos k) → z ≡ x -ℤ y -ℤ pos k
difference_once w a b k x y z second p q r in_it = difference_at w a b k (a + limit_of w - (b + k)) x y z (omega arith) p q r in_it

pub differences_exact : DifferencesAreExact
unfolding difference_of result_flags
differences_exact w a b borrow first second = record {
  unsigned = whole w a b borrow first second;
  signed = record {
    within = λ e. difference_once w a b (from_bool borrow) (signed_of w a) (signed_of w b) (signed_of w r)
        (room borrow second) (stands w a first) (stands w b second) (stands w r small)
        (in_range w exact (not_false (fits_signed w exact) e));
    outside = λ e. out_of_range w exact (not_true (fits_signed w exact) e);
  };
  result = tells_result w r (nat_lt a (b + from_bool borrow)) (not (fits_signed w exact)) small;
}
  where
    exact : ℤ
    exact = signed_of w a -ℤ signed_of w b -ℤ pos (from_bool borrow)

    r : ℕ
    r = (a + limit_of w - (b + from_bool borrow)) % limit_of w

    small : r < limit_of w
    small = below w (a + limit_of w - (b + from_bool borrow))

    room : (k : Bool) → b < limit_of w → b + from_bool k ≤ limit_of w
    room true h = omega arith
    room false h = omega arith

    whole : (w : Width) (a b : ℕ) (borrow : Bool) → a < limit_of w → b < limit_of w
        → (a + limit_of w - (b + from_bool borrow)) % limit_of w + b + from_bool borrow ≡ a + from_bool (nat_lt a (b + from_bool borrow)) * limit_of w
    whole Byte a b true first second = grind (arith, nat_tests)
    whole Byte a b false first second = grind (arith, nat_tests)
    whole Word a b true first second = grind (arith, nat_tests)
    whole Word a b false first second = grind (arith, nat_tests)

-- ---- comparisons

-- where the difference is out of the range the number that stands for the result has the other sign
turned_sign : (w : Width) (a b : ℕ) (x y z : ℤ) → a < limit_of w → b < limit_of w → Stands w a x → Stands w b y → Stands w ((a + limit_of w - (b + 0)) % limit_of w) z
    → (pos (half_of w) ≤ℤ (x -ℤ y -ℤ pos 0)) ⊎ ((x -ℤ y -ℤ pos 0) <ℤ neg_ℤ (pos (half_of w))) → not (int_lt z (pos 0)) ≡ int_lt x y
turned_sign Byte a b x y z first second p q r out = grind (arith, ints, p.value, q.value, r.value, p.range.low, p.range.high, q.range.low, q.range.high, r.range.low, r.range.high)
turned_sign Word a b x y z first second p q r out = grind (arith, ints, p.value, q.value, r.value, p.range.low, p.range.high, q.range.low, q.range.high, r.range.low, r.range.high)

same_sign : (x y z : ℤ) → z ≡ x -ℤ y -ℤ pos 0 → int_lt z (pos 0) ≡ int_lt x y
same_sign x y z e = grind (arith, ints)

differ_true : (b : Bool) → differ b true ≡ not b
differ_true true = refl
differ_true false = refl

differ_false : (b : Bool) → differ b false ≡ b
differ_false true = refl
differ_false false = refl

pub differences_compare : DifferencesCompare
unfolding difference_of result_flags
differences_compare w a b first second = record {
  below = grind (arith, nat_tests);
  equal = equal w a b first second;
  less = less (fits_signed w (signed_of w a -ℤ signed_of w b -ℤ pos 0)) refl;
}
  where
    equal : (w : Width) (a b : ℕ) → a < limit_of w → b < limit_of w → nat_eq ((a + limit_of w - (b + 0)) % limit_of w) 0 ≡ nat_eq a b
    equal Byte a b first second = grind (arith, nat_tests)
    equal Word a b first second = grind (arith, nat_tests)

    r : ℕ
    r = (a + limit_of w - (b + 0)) % limit_of w

    stood : Stands w r (signed_of w r)
    stood = stands w r (below w (a + limit_of w - (b + 0)))

    less : (f : Bool) → fits_signed w (signed_of w a -ℤ signed_of w b -ℤ pos 0) ≡ f → differ (has_sign w r) (not f) ≡ int_lt (signed_of w a) (signed_of w b)
    less true e = differ_false (has_sign w r) ∙ sign_is w r (signed_of w r) (below w (a + limit_of w - (b + 0))) stood
        ∙ same_sign (signed_of w a) (signed_of w b) (signed_of w r)
        (difference_once w a b 0 (signed_of w a) (signed_of w b) (signed_of w r) (omega arith) (stands w a first) (stands w b second) stood
        (in_range w (signed_of w a -ℤ signed_of w b -ℤ pos 0) e))
    less false e = differ_true (has_sign w r) ∙ ap not (sign_is w r (signed_of w r) (below w (a + limit_of w - (b + 0))) stood)
        ∙ turned_sign w a b (signed_of w a) (signed_of w b) (signed_of w r) first second (stands w a first) (stands w b second) stood
        (out_of_range w (signed_of w a -ℤ signed_of w b -ℤ pos 0) e)

-- ---- sign extension

pub sign_extensions_exact : SignExtensionsAreExact
unfolding sign_extension_of
sign_extensions_exact a small = signed_wrapped Word (signed_of Byte a) (wider (stands Byte a small).range)
  where
    wider : {z : ℤ} → InRange Byte z → InRange Word z
    wider {z} p = record { low = omega (arith, ints, p.low); high = omega (arith, ints, p.high) }
