-- Laws of the operations: shifts and rotations as one step made many times, and sums, products and quotients as those
-- of the signed and unsigned numbers.
use Rattle.std.specs.Prelude.{◌≡◌, ℕ, zero, suc, ◌+◌, ◌-◌, ◌*◌, ◌/◌, ◌%◌, ◌<◌, ◌≤◌, ◌==◌, nat_lt, nat_le, Bool, true}
use Rattle.std.specs.Prelude.{false, not, ◌&&◌, ◌||◌, ◌⊎◌, ℤ, pos, neg_ℤ, ◌+ℤ◌, ◌-ℤ◌, ◌*ℤ◌, ◌<ℤ◌, ◌≤ℤ◌, int_lt}
use Rattle.std.specs.Prelude.{unsigned_abs, if◌then◌else◌, MatchOption}
use Rattle.std.specs.Int.{from_bool}
use Rattle.dcc_num.specs.declared.Width.{Width}
use Rattle.dcc_num.specs.declared.Width.TheVariants.{Byte, Word}
use Rattle.dcc_num.specs.declared.Flags.{Flags}
use Rattle.dcc_num.specs.Numbers.{bits_of, limit_of, half_of, has_sign, is_set, differ, signed_of, sign_extension_of}
use Rattle.dcc_num.specs.Numbers.{fits_signed, no_flags}
use Rattle.dcc_num.specs.Sum.{sum_of, difference_of, negation_of, increment_of, decrement_of}
use Rattle.dcc_num.specs.Shift.{shl_of, shr_of, rcl_of, rcr_of}
use Rattle.dcc_num.specs.Product.{product_of, signed_product_of}
use Rattle.dcc_num.specs.Quotient.{joined_of, signed_joined_of, division_of, signed_division_of}

-- ---- shifts and rotations

-- a step made so many times
unfoldable pub after_steps : {X : Type 0} → (X → X) → ℕ → X → X
after_steps step zero x = x
after_steps step (suc n) x = step (after_steps step n x)

-- one place to the left: 0 comes in, and the top bit is the new CF
abbrev pub left_step : Width → ℕ × Bool → ℕ × Bool
left_step w (a, carry) = (2 * a % limit_of w, has_sign w a)

-- one place to the right: 0 comes in, and the lowest bit is the new CF
abbrev pub right_step : Width → ℕ × Bool → ℕ × Bool
right_step w (a, carry) = (a / 2, is_set a 0)

-- one place to the right: the sign stays
abbrev pub signed_step : Width → ℕ × Bool → ℕ × Bool
signed_step w (a, carry) = (a / 2 + (if has_sign w a then half_of w else 0), is_set a 0)

-- one place to the left: the top bit comes in at the bottom
abbrev pub rol_step : Width → ℕ × Bool → ℕ × Bool
rol_step w (a, carry) = (2 * a % limit_of w + from_bool (has_sign w a), has_sign w a)

-- one place to the right: the lowest bit comes in at the top
abbrev pub ror_step : Width → ℕ × Bool → ℕ × Bool
ror_step w (a, carry) = (a / 2 + from_bool (is_set a 0) * half_of w, is_set a 0)

-- the result and CF
abbrev pub value_and_carry : ℕ × Flags → ℕ × Bool
value_and_carry (r, flags) = (r, flags.cf)

-- an operation by a count is its step, made count times
abbrev pub IsRepeated : (Width → ℕ × Bool → ℕ × Bool) → (Width → ℕ → ℕ → Flags → ℕ × Flags) → Type 0
IsRepeated step moved =
    (w : Width) (a count : ℕ) (was : Flags) → a < limit_of w
    → value_and_carry (moved w a count was) ≡ after_steps (step w) count (a, was.cf)

-- the flags of which CF alone may be set, for RCL and RCR, which take no other
abbrev pub only_carry : Bool → Flags
only_carry carry = record no_flags { cf = carry }

-- one place to the left through CF (RCL): CF comes in, and the top bit is the new CF; `rcr_step` (RCR): CF
-- comes in at the top, and the lowest bit is the new CF
abbrev pub rcl_step : Width → ℕ × Bool → ℕ × Bool
rcl_step w (a, carry) = value_and_carry (rcl_of w a (only_carry carry))

abbrev pub rcr_step : Width → ℕ × Bool → ℕ × Bool
rcr_step w (a, carry) = value_and_carry (rcr_of w a (only_carry carry))

-- made once more than an operand has bits, a step gives every operand and CF back
abbrev pub ComesRound : (Width → ℕ × Bool → ℕ × Bool) → Type 0
ComesRound step = (w : Width) (a : ℕ) (carry : Bool) → a < limit_of w
    → after_steps (step w) (bits_of w + 1) (a, carry) ≡ (a, carry)

-- the second step gives back what the first one took
abbrev pub Undoes : (Width → ℕ × Bool → ℕ × Bool) → (Width → ℕ × Bool → ℕ × Bool) → Type 0
Undoes step other = (w : Width) (a : ℕ) (carry : Bool) → a < limit_of w
    → other w (step w (a, carry)) ≡ (a, carry)

-- ---- the flags of a result

-- ZF tells that the result is 0, and SF that it is negative as a signed number
pub record TellsResult (w : Width) (r : ℕ) (flags : Flags) : Type 0 where
  pub zero : flags.zf ≡ (r == 0)
  pub negative : flags.sf ≡ int_lt (signed_of w r) (pos 0)

-- a number lies above the greatest, or below the least, signed number of the width
abbrev pub IsOutside : Width → ℤ → Type 0
IsOutside w z = (pos (half_of w) ≤ℤ z) ⊎ (z <ℤ neg_ℤ (pos (half_of w)))

-- OF tells that this signed number lies outside the range; where it does not, the result stands for it
pub record TellsOverflow (w : Width) (r : ℕ) (exact : ℤ) (flags : Flags) : Type 0 where
  pub within : flags.of ≡ false → signed_of w r ≡ exact
  pub outside : flags.of ≡ true → IsOutside w exact

-- ---- sums and differences

-- r is the sum of the unsigned numbers, less 2 to the width where CF is set
pub record IsSum (w : Width) (a b : ℕ) (carry : Bool) (r : ℕ) (flags : Flags) : Type 0 where
  pub unsigned : r + from_bool flags.cf * limit_of w ≡ a + b + from_bool carry
  pub signed : TellsOverflow w r (signed_of w a +ℤ signed_of w b +ℤ pos (from_bool carry)) flags
  pub result : TellsResult w r flags

abbrev pub SumsAreExact : Type 0
SumsAreExact = (w : Width) (a b : ℕ) (carry : Bool) → a < limit_of w → b < limit_of w
    → IsSum w a b carry (sum_of w a b carry).0 (sum_of w a b carry).1

-- r is the difference of the unsigned numbers, and 2 to the width more where CF is set
pub record IsDifference (w : Width) (a b : ℕ) (borrow : Bool) (r : ℕ) (flags : Flags) : Type 0 where
  pub unsigned : r + b + from_bool borrow ≡ a + from_bool flags.cf * limit_of w
  pub signed : TellsOverflow w r (signed_of w a -ℤ signed_of w b -ℤ pos (from_bool borrow)) flags
  pub result : TellsResult w r flags

abbrev pub DifferencesAreExact : Type 0
DifferencesAreExact = (w : Width) (a b : ℕ) (borrow : Bool) → a < limit_of w → b < limit_of w
    → IsDifference w a b borrow (difference_of w a b borrow).0 (difference_of w a b borrow).1

-- two numbers of two halves, whose lower halves are added by ADD and whose upper ones by ADC: the halves of the sum,
-- less 2 to both widths where CF is set at last
abbrev pub SumsCarryOn : Type 0
SumsCarryOn = (w : Width) (high low high' low' : ℕ)
    → high < limit_of w → low < limit_of w → high' < limit_of w → low' < limit_of w
    → let lower = sum_of w low low' false in
    let upper = sum_of w high high' lower.1.cf in
    joined_of w upper.0 lower.0 + from_bool upper.1.cf * (limit_of w * limit_of w)
    ≡ joined_of w high low + joined_of w high' low'

-- two numbers of two halves, whose lower halves are subtracted by SUB and whose upper ones by SBB: the halves of the
-- difference, 2 to both widths more where CF is set at last
abbrev pub DifferencesCarryOn : Type 0
DifferencesCarryOn = (w : Width) (high low high' low' : ℕ)
    → high < limit_of w → low < limit_of w → high' < limit_of w → low' < limit_of w
    → let lower = difference_of w low low' false in
    let upper = difference_of w high high' lower.1.cf in
    joined_of w upper.0 lower.0 + joined_of w high' low'
    ≡ joined_of w high low + from_bool upper.1.cf * (limit_of w * limit_of w)

-- after a comparison CF tells a < b, ZF a = b, and SF beside OF a < b as signed numbers
pub record Compares (w : Width) (a b : ℕ) (flags : Flags) : Type 0 where
  pub below : flags.cf ≡ nat_lt a b
  pub equal : flags.zf ≡ (a == b)
  pub less : differ flags.sf flags.of ≡ int_lt (signed_of w a) (signed_of w b)

abbrev pub DifferencesCompare : Type 0
DifferencesCompare = (w : Width) (a b : ℕ) → a < limit_of w → b < limit_of w
    → Compares w a b (difference_of w a b false).1

-- r and a make a whole turn, or both are 0. CF tells that a is not 0, and OF that a is the least signed number, which
-- has no negative
pub record IsNegation (w : Width) (a r : ℕ) (flags : Flags) : Type 0 where
  pub whole : r + a ≡ from_bool flags.cf * limit_of w
  pub carry : flags.cf ≡ not (a == 0)
  pub overflow : flags.of ≡ (a == half_of w)
  pub signed : flags.of ≡ false → signed_of w r ≡ neg_ℤ (signed_of w a)
  pub result : TellsResult w r flags

abbrev pub NegationsAreExact : Type 0
NegationsAreExact = (w : Width) (a : ℕ) → a < limit_of w → IsNegation w a (negation_of w a).0 (negation_of w a).1

-- r is one more, or 0 after the greatest number. CF stays, and OF tells that r is the least signed number
pub record IsIncrement (w : Width) (a : ℕ) (was : Flags) (r : ℕ) (flags : Flags) : Type 0 where
  pub value : (r ≡ a + 1) ⊎ ((a + 1 ≡ limit_of w) × (r ≡ 0))
  pub carry : flags.cf ≡ was.cf
  pub overflow : flags.of ≡ (r == half_of w)
  pub result : TellsResult w r flags

abbrev pub IncrementsAreExact : Type 0
IncrementsAreExact = (w : Width) (a : ℕ) (was : Flags) → a < limit_of w
    → IsIncrement w a was (increment_of w a was).0 (increment_of w a was).1

-- r is one less, or the greatest number after 0. CF stays, and OF tells that a was the least signed number
pub record IsDecrement (w : Width) (a : ℕ) (was : Flags) (r : ℕ) (flags : Flags) : Type 0 where
  pub value : (r + 1 ≡ a) ⊎ ((a ≡ 0) × (r + 1 ≡ limit_of w))
  pub carry : flags.cf ≡ was.cf
  pub overflow : flags.of ≡ (a == half_of w)
  pub result : TellsResult w r flags

abbrev pub DecrementsAreExact : Type 0
DecrementsAreExact = (w : Width) (a : ℕ) (was : Flags) → a < limit_of w
    → IsDecrement w a was (decrement_of w a was).0 (decrement_of w a was).1

-- ---- bits

-- each bit of the result is made of the two at its place, and CF and OF are clear
pub record IsBitwise (w : Width) (of_bits : Bool → Bool → Bool) (a b r : ℕ) (flags : Flags) : Type 0 where
  pub bits : (k : ℕ) → is_set r k ≡ of_bits (is_set a k) (is_set b k)
  pub carry : flags.cf ≡ false
  pub overflow : flags.of ≡ false
  pub result : TellsResult w r flags

abbrev pub IsBitByBit : (Bool → Bool → Bool) → (Width → ℕ → ℕ → ℕ × Flags) → Type 0
IsBitByBit of_bits operation = (w : Width) (a b : ℕ) → a < limit_of w → b < limit_of w
    → IsBitwise w of_bits a b (operation w a b).0 (operation w a b).1

-- both bits are set
abbrev pub both : Bool → Bool → Bool
both a b = a && b

abbrev pub either : Bool → Bool → Bool
either a b = a || b

-- ---- the flags of shifts and rotations

-- After a shift or rotation by 1 place OF tells that the sign has changed, by more places it is clear, and by none the
-- operand and all flags stay.
pub record TellsSign (w : Width) (a count : ℕ) (was : Flags) (r : ℕ) (flags : Flags) : Type 0 where
  pub once : count ≡ 1 → flags.of ≡ differ (has_sign w a) (has_sign w r)
  pub more : 1 < count → flags.of ≡ false
  pub none : count ≡ 0 → (r ≡ a) × (flags ≡ was)

-- a shift: OF tells the change of the sign, and ZF and SF tell the result
abbrev pub ShiftsTellResults : (Width → ℕ → ℕ → Flags → ℕ × Flags) → Type 0
ShiftsTellResults moved = (w : Width) (a count : ℕ) (was : Flags) → a < limit_of w
    → TellsSign w a count was (moved w a count was).0 (moved w a count was).1
    × (0 < count → TellsResult w (moved w a count was).0 (moved w a count was).1)

-- a rotation: OF tells the change of the sign, and ZF and SF stay
abbrev pub RotationsKeepFlags : (Width → ℕ → ℕ → Flags → ℕ × Flags) → Type 0
RotationsKeepFlags moved = (w : Width) (a count : ℕ) (was : Flags) → a < limit_of w
    → TellsSign w a count was (moved w a count was).0 (moved w a count was).1
    × ((moved w a count was).1.zf ≡ was.zf) × ((moved w a count was).1.sf ≡ was.sf)

-- RCL or RCR by 1 place: OF tells the change of the sign, and ZF and SF stay
abbrev pub CarryRotationsKeepFlags : (Width → ℕ → Flags → ℕ × Flags) → Type 0
CarryRotationsKeepFlags turned = (w : Width) (a : ℕ) (was : Flags) → a < limit_of w
    → ((turned w a was).1.of ≡ differ (has_sign w a) (has_sign w (turned w a was).0))
    × ((turned w a was).1.zf ≡ was.zf) × ((turned w a was).1.sf ≡ was.sf)

-- the last bit that SHL moves out is that bit of the operand, counted from the top; none is left past the width
abbrev pub LeftShiftsCarry : Type 0
LeftShiftsCarry = (w : Width) (a count : ℕ) (was : Flags) → a < limit_of w → 0 < count
    → (shl_of w a count was).1.cf
    ≡ (if nat_le count (bits_of w) then is_set a (bits_of w - count) else false)

-- the last bit that SHR moves out is that bit of the operand, counted from the bottom
abbrev pub RightShiftsCarry : Type 0
RightShiftsCarry = (w : Width) (a count : ℕ) (was : Flags) → a < limit_of w → 0 < count
    → (shr_of w a count was).1.cf ≡ is_set a (count - 1)

-- ---- sign extension, products and quotients

abbrev pub SignExtensionsAreExact : Type 0
SignExtensionsAreExact = (a : ℕ) → a < 256 → signed_of Word (sign_extension_of a) ≡ signed_of Byte a

-- the two halves are the product of unsigned numbers, and CF tells that the lower half alone is not
pub record IsProduct (w : Width) (a b low high : ℕ) (flags : Flags) : Type 0 where
  pub value : joined_of w high low ≡ a * b
  pub needed : flags.cf ≡ not (nat_lt (a * b) (limit_of w))

abbrev pub ProductsAreExact : Type 0
ProductsAreExact = (w : Width) (a b : ℕ) → a < limit_of w → b < limit_of w
    → IsProduct w a b (product_of w a b).0 (product_of w a b).1 (product_of w a b).2

-- the two halves are the product of signed numbers, and CF tells that it does not fit the lower half
pub record IsSignedProduct (w : Width) (a b low high : ℕ) (flags : Flags) : Type 0 where
  pub value : signed_joined_of w high low ≡ signed_of w a *ℤ signed_of w b
  pub needed : flags.cf ≡ not (fits_signed w (signed_of w a *ℤ signed_of w b))

abbrev pub SignedProductsAreExact : Type 0
SignedProductsAreExact = (w : Width) (a b : ℕ) → a < limit_of w → b < limit_of w
    → IsSignedProduct w a b (signed_product_of w a b).0 (signed_product_of w a b).1 (signed_product_of w a b).2

-- q and r are the quotient and the remainder, without a sign
pub record IsDivision (dividend by q r : ℕ) : Type 0 where
  pub sum : q * by + r ≡ dividend
  pub small : r < by

-- a division without a sign is right, and faults exactly where the divisor is 0 or the quotient would not fit
abbrev pub DivisionsAreExact : Type 0
DivisionsAreExact = (w : Width) (high low by : ℕ) → high < limit_of w → low < limit_of w
    → MatchOption (division_of w high low by)
    ((by ≡ 0) ⊎ (by * limit_of w ≤ joined_of w high low))
    (λ x. IsDivision (joined_of w high low) by x.0 x.1 × (x.0 < limit_of w))

-- q and r are the quotient, rounded towards 0, and the remainder, which has the dividend's sign
pub record IsSignedDivision (dividend by q r : ℤ) : Type 0 where
  pub sum : q *ℤ by +ℤ r ≡ dividend
  pub small : unsigned_abs r < unsigned_abs by
  pub sign : (r ≡ pos 0) ⊎ (int_lt r (pos 0) ≡ int_lt dividend (pos 0))

-- a division of signed numbers is right, and faults exactly where the divisor is 0 or no quotient that fits would be
abbrev pub SignedDivisionsAreExact : Type 0
SignedDivisionsAreExact = (w : Width) (high low by : ℕ) → high < limit_of w → low < limit_of w → by < limit_of w
    → MatchOption (signed_division_of w high low by)
    ((by ≡ 0) ⊎ ((q r : ℤ) → IsSignedDivision (signed_joined_of w high low) (signed_of w by) q r
    → fits_signed w q ≡ false))
    (λ x. IsSignedDivision (signed_joined_of w high low) (signed_of w by) (signed_of w x.0) (signed_of w x.1))
