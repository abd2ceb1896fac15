-- Results fit their width.
use Rattle.std.proofs.Common.{◌≡◌, ℕ, ◌+◌, ◌-◌, ◌*◌, ◌/◌, ◌%◌, ◌^◌, ◌<◌, ◌≤◌, Bool, true, false, Some, None, bit_and, bit_or, bit_xor, refl, arith}
use Rattle.std.proofs.lemmas.Nat.{or_of_8, or_of_16, xor_of_8, xor_of_16, and_le_l}
use Rattle.std.proofs.Math.Nat.{div-le_self, mul-le-mul}
use Rattle.std.proofs.lemmas.Bool.Decides.{nat_tests}
use Rattle.std.proofs.lemmas.Int.{ints}
use Rattle.std.specs.Int.{from_bool}
use Rattle.std.specs.Prelude.{int_div, int_rem, if◌then◌else◌, ◌==◌, ◌||◌, not, nat_le}
use Rattle.dcc_num.specs.declared.Width.{Width}
use Rattle.dcc_num.specs.declared.Width.TheVariants.{Byte as byte_width, Word as word_width}
use Rattle.dcc_num.specs.declared.Flags.{Flags}
use Rattle.dcc_num.specs.Numbers.{bits_of, limit_of, half_of, has_sign, fits_signed, sign_extension_of, signed_of, wrapped_of}
use Rattle.dcc_num.specs.Sum.{sum_of, difference_of, negation_of, increment_of, decrement_of}
use Rattle.dcc_num.specs.Logic.{conjunction_of, disjunction_of, exclusive_of}
use Rattle.dcc_num.specs.Shift.{unless_zero, shl_of, shr_of, sar_of, rotated_of, rol_of, ror_of, rcl_of, rcr_of}
use Rattle.dcc_num.specs.Product.{product_of, signed_product_of, extension_of}
use Rattle.dcc_num.specs.Quotient.{joined_of, signed_joined_of, division_of, signed_division_of}
use Rattle.dcc_num.proofs.Differences.{below, wrapped_below}
use Rattle.dcc_num.proofs.Divisions.{products_exact}
use Rattle.dcc_num.proofs.Shifts.{rotated_below}
use Rattle.dcc_machine.specs.declared.instr.Alu.{Alu as AluName}
use Rattle.dcc_machine.specs.declared.instr.Alu.TheVariants.{Add, Or, Adc, Sbb, And, Sub, Xor, Cmp, Test}
use Rattle.dcc_machine.specs.declared.instr.Shift.{Shift as ShiftName}
use Rattle.dcc_machine.specs.declared.instr.Shift.TheVariants.{Rol, Ror, Rcl, Rcr, Shl, Shr, Sar}
use Rattle.dcc_machine.specs.declared.instr.Unary.{Unary as UnaryName}
use Rattle.dcc_machine.specs.declared.instr.Unary.TheVariants.{Inc, Dec, Neg, Not, Mul, Imul, Div, Idiv}
use Rattle.dcc_machine.specs.Operations.{shift_result}
use Rattle.dcc_machine.proofs.OperationForms.{alu_result, Outcome, in_operand, in_pair, in_fault, divided}
use Rattle.dcc_machine.proofs.OperationForms.{unary_outcome}

-- Two operands.

and-below : (w : Width) (a b : ℕ) → a < limit_of w → bit_and a b < limit_of w
and-below byte_width a b p = let h : bit_and a b ≤ a = and_le_l a b in omega arith
and-below word_width a b p = let h : bit_and a b ≤ a = and_le_l a b in omega arith

or-below : (w : Width) (a b : ℕ) → a < limit_of w → b < limit_of w → bit_or a b < limit_of w
or-below byte_width a b p q = or_of_8 a b p q
or-below word_width a b p q = or_of_16 a b p q

xor-below : (w : Width) (a b : ℕ) → a < limit_of w → b < limit_of w → bit_xor a b < limit_of w
xor-below byte_width a b p q = xor_of_8 a b p q
xor-below word_width a b p q = xor_of_16 a b p q

sum-below : (w : Width) (a b : ℕ) (carry : Bool) → (sum_of w a b carry).0 < limit_of w
unfolding sum_of
sum-below w a b carry = below w _

difference-below : (w : Width) (a b : ℕ) (carry : Bool) → (difference_of w a b carry).0 < limit_of w
unfolding difference_of
difference-below w a b carry = below w _

and-result : (w : Width) (a b : ℕ) → a < limit_of w → (conjunction_of w a b).0 < limit_of w
unfolding conjunction_of
and-result w a b p = and-below w a b p

or-result : (w : Width) (a b : ℕ) → a < limit_of w → b < limit_of w → (disjunction_of w a b).0 < limit_of w
unfolding disjunction_of
or-result w a b p q = or-below w a b p q

xor-result : (w : Width) (a b : ℕ) → a < limit_of w → b < limit_of w → (exclusive_of w a b).0 < limit_of w
unfolding exclusive_of
xor-result w a b p q = xor-below w a b p q

pub alu-below :
    (operation : AluName) (w : Width) (a b : ℕ) (carry : Bool) → a < limit_of w → b < limit_of w
    → (alu_result operation w a b carry).0 < limit_of w
alu-below Add w a b carry p q = sum-below w a b false
alu-below Or w a b carry p q = or-result w a b p q
alu-below Adc w a b carry p q = sum-below w a b carry
alu-below Sbb w a b carry p q = difference-below w a b carry
alu-below And w a b carry p q = and-result w a b p
alu-below Sub w a b carry p q = difference-below w a b false
alu-below Xor w a b carry p q = xor-result w a b p q
alu-below Cmp w a b carry p q = difference-below w a b false
alu-below Test w a b carry p q = and-result w a b p

-- Shifts.

unless-below :
    (w : Width) (count : ℕ) (a r : ℕ) (was flags : Flags) → a < limit_of w → r < limit_of w
    → (unless_zero count (a, was) (r, flags)).0 < limit_of w
unless-below w count a r was flags p q =
    elim (count == 0) as (λ b. (if b then (let x : ℕ × Flags = (a, was) in x) else (r, flags)).0 < limit_of w) [
      | true ↦ p
      | false ↦ q
    ]

shl-below : (w : Width) (a count : ℕ) (was : Flags) → a < limit_of w → (shl_of w a count was).0 < limit_of w
unfolding shl_of
shl-below w a count was p = unless-below w count a _ was _ p (below w _)

shr-below : (w : Width) (a count : ℕ) (was : Flags) → a < limit_of w → (shr_of w a count was).0 < limit_of w
unfolding shr_of
shr-below w a count was p =
    let h : a / 2 ^ count ≤ a = div-le_self a (2 ^ count) in
    let q : a / 2 ^ count < limit_of w = omega arith in
    unless-below w count a _ was _ p q

sar-below : (w : Width) (a count : ℕ) (was : Flags) → a < limit_of w → (sar_of w a count was).0 < limit_of w
unfolding sar_of
sar-below w a count was p = unless-below w count a _ was _ p (wrapped_below w _)

turned-fits : (w : Width) (a n : ℕ) → a < limit_of w → n ≤ bits_of w → rotated_of w a n < limit_of w
turned-fits w a n p q = rotated_below a (bits_of w) n p q

turns-low : (w : Width) (n : ℕ) → n % bits_of w ≤ bits_of w
turns-low byte_width n = omega arith
turns-low word_width n = omega arith

rol-below : (w : Width) (a count : ℕ) (was : Flags) → a < limit_of w → (rol_of w a count was).0 < limit_of w
unfolding rol_of
rol-below w a count was p = unless-below w count a _ was _ p (turned-fits w a (count % bits_of w) p (turns-low w count))

ror-below : (w : Width) (a count : ℕ) (was : Flags) → a < limit_of w → (ror_of w a count was).0 < limit_of w
unfolding ror_of
ror-below w a count was p =
    unless-below w count a _ was _ p (turned-fits w a (bits_of w - count % bits_of w) p (omega arith))

rcl-below : (w : Width) (a : ℕ) (was : Flags) → (rcl_of w a was).0 < limit_of w
unfolding rcl_of
rcl-below w a was = below w _

rcr-below : (w : Width) (a : ℕ) (was : Flags) → a < limit_of w → (rcr_of w a was).0 < limit_of w
unfolding rcr_of
rcr-below w a was p = half_fits w was.cf p
  where
    half_fits : (v : Width) (c : Bool) → a < limit_of v → a / 2 + from_bool c * half_of v < limit_of v
    half_fits byte_width true q = omega arith
    half_fits byte_width false q = omega arith
    half_fits word_width true q = omega arith
    half_fits word_width false q = omega arith

pub shift-below :
    (shift : ShiftName) (w : Width) (a count : ℕ) (was : Flags) → a < limit_of w
    → (shift_result shift w a count was).0 < limit_of w
shift-below Rol w a count was p = rol-below w a count was p
shift-below Ror w a count was p = ror-below w a count was p
shift-below Rcl w a count was p = rcl-below w a was
shift-below Rcr w a count was p = rcr-below w a was p
shift-below Shl w a count was p = shl-below w a count was p
shift-below Shr w a count was p = shr-below w a count was p
shift-below Sar w a count was p = sar-below w a count was p

-- One operand.

-- a result fits, and so do both halves of a pair
abbrev pub OutcomeFits : Width → Outcome → Type 0
OutcomeFits w (in_operand result) = result.0 < limit_of w
OutcomeFits w (in_pair pair) = (pair.0 < limit_of w) × (pair.1 < limit_of w)
OutcomeFits w in_fault = Unit {0}

increment-below : (w : Width) (a : ℕ) (was : Flags) → (increment_of w a was).0 < limit_of w
unfolding increment_of
increment-below w a was = sum-below w a 1 false

decrement-below : (w : Width) (a : ℕ) (was : Flags) → (decrement_of w a was).0 < limit_of w
unfolding decrement_of
decrement-below w a was = difference-below w a 1 false

negation-below : (w : Width) (a : ℕ) → (negation_of w a).0 < limit_of w
unfolding negation_of
negation-below w a = difference-below w 0 a false

complement-below : (w : Width) (a : ℕ) → limit_of w - 1 - a < limit_of w
complement-below byte_width a = omega arith
complement-below word_width a = omega arith

high-below :
    (w : Width) (low high a b : ℕ) → a < limit_of w → b < limit_of w → joined_of w high low ≡ a * b → high < limit_of w
high-below byte_width low high a b p q e =
    let first : a ≤ 255 = omega arith in
    let second : b ≤ 255 = omega arith in
    let h : a * b ≤ 255 * 255 = mul-le-mul first second in
    omega (arith, e)
high-below word_width low high a b p q e =
    let first : a ≤ 65535 = omega arith in
    let second : b ≤ 65535 = omega arith in
    let h : a * b ≤ 65535 * 65535 = mul-le-mul first second in
    omega (arith, e)

low-below : (w : Width) (a b : ℕ) → (product_of w a b).0 < limit_of w
unfolding product_of
low-below w a b = below w (a * b)

product-below : (w : Width) (a b : ℕ) → a < limit_of w → b < limit_of w → OutcomeFits w (in_pair (product_of w a b))
product-below w a b p q =
    (low-below w a b, high-below w (product_of w a b).0 (product_of w a b).1 a b p q (products_exact w a b p q).value)

pub signed_product-below : (w : Width) (a b : ℕ) → OutcomeFits w (in_pair (signed_product_of w a b))
unfolding signed_product_of
signed_product-below w a b = (wrapped_below w _, wrapped_below w _)

nat_le-false : (a b : ℕ) → nat_le a b ≡ false → b < a
nat_le-false a b e = grind (arith, nat_tests)

zero-false : (a : ℕ) → (a == 0) ≡ false → 0 < a
zero-false a e = grind (arith, nat_tests)

-- a quotient that fits, and a remainder below the divisor
quotient-fits :
    (w : Width) (dividend by : ℕ) (none large : Bool) → by < limit_of w → (none ≡ false → 0 < by)
    → (large ≡ false → dividend / by < limit_of w)
    → OutcomeFits w (divided (if none || large then None else Some (dividend / by, dividend % by)))
quotient-fits w dividend by true large p some small = tt
quotient-fits w dividend by false true p some small = tt
quotient-fits w dividend by false false p some small =
    let positive : 0 < by = some refl in
    let rest : dividend % by < by = omega arith in
    let less : dividend % by < limit_of w = omega arith in
    (small refl, less)

division-fits : (w : Width) (high low by : ℕ) → by < limit_of w → OutcomeFits w (divided (division_of w high low by))
unfolding division_of
division-fits w high low by p =
    let dividend = joined_of w high low in
    quotient-fits w dividend by (by == 0) (nat_le (limit_of w) (dividend / by)) p (zero-false by)
    (nat_le-false (limit_of w) (dividend / by))

signed_division-fits : (w : Width) (high low by : ℕ) → OutcomeFits w (divided (signed_division_of w high low by))
unfolding signed_division_of
signed_division-fits w high low by =
    let dividend = signed_joined_of w high low in
    let quotient = int_div dividend (signed_of w by) in
    let remainder = int_rem dividend (signed_of w by) in
    elim (by == 0 || not (fits_signed w quotient)) as (λ b.
    OutcomeFits w (divided (if b then None else Some (wrapped_of w quotient, wrapped_of w remainder)))) [
      | true ↦ tt
      | false ↦ (wrapped_below w quotient, wrapped_below w remainder)
    ]

pub outcome-fits :
    (operation : UnaryName) (w : Width) (low high a : ℕ) (flags : Flags) → low < limit_of w → a < limit_of w
    → OutcomeFits w (unary_outcome operation w low high a flags)
outcome-fits Inc w low high a flags p q = increment-below w a flags
outcome-fits Dec w low high a flags p q = decrement-below w a flags
outcome-fits Neg w low high a flags p q = negation-below w a
outcome-fits Not w low high a flags p q = complement-below w a
outcome-fits Mul w low high a flags p q = product-below w low a p q
outcome-fits Imul w low high a flags p q = signed_product-below w low a
outcome-fits Div w low high a flags p q = division-fits w high low a q
outcome-fits Idiv w low high a flags p q = signed_division-fits w high low a

-- Extensions of a sign.

pub extension-below : (w : Width) (a : ℕ) → extension_of w a < limit_of w
extension-below w a = elim (has_sign w a) as (λ b. (if b then limit_of w - 1 else 0) < limit_of w) [
  | true ↦ top w
  | false ↦ some w
]
  where
    top : (v : Width) → limit_of v - 1 < limit_of v
    top byte_width = omega arith
    top word_width = omega arith

    some : (v : Width) → 0 < limit_of v
    some byte_width = omega arith
    some word_width = omega arith

pub sign_extension-below : (a : ℕ) → sign_extension_of a < 65536
unfolding sign_extension_of
sign_extension-below a = wrapped_below word_width _

-- the lower half of an extended byte is the byte
pub sign_extension-low : (a : ℕ) → a < 256 → sign_extension_of a % 256 ≡ a
unfolding sign_extension_of signed_of
sign_extension-low a p = grind (arith, ints, nat_tests)
