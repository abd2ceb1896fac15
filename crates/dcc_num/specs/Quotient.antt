-- DIV and IDIV: each gives the quotient and the remainder, or None at a divide fault, where the divisor is 0 or the
-- quotient does not fit.
use Rattle.std.specs.Prelude.{ℕ, ◌+◌, ◌*◌, ◌/◌, ◌%◌, ◌==◌, nat_le, not, ◌||◌, ℤ, pos, ◌+ℤ◌, ◌*ℤ◌, int_div, int_rem}
use Rattle.std.specs.Prelude.{if◌then◌else◌, Option, Some, None}
use Rattle.dcc_num.specs.declared.Width.{Width}
use Rattle.dcc_num.specs.Numbers.{limit_of, signed_of, fits_signed, wrapped_of}

-- the number whose upper and lower half are two operands
abbrev pub joined_of : Width → ℕ → ℕ → ℕ
joined_of w high low = high * limit_of w + low

-- the signed number, in two's complement, whose upper and lower half are two operands
abbrev pub signed_joined_of : Width → ℕ → ℕ → ℤ
signed_joined_of w high low = signed_of w high *ℤ pos (limit_of w) +ℤ pos low

-- the quotient and the remainder without a sign
unfoldable pub division_of : Width → ℕ → ℕ → ℕ → Option (ℕ × ℕ)
division_of w high low by =
    let dividend = joined_of w high low in
    let quotient = dividend / by in
    if by == 0 || nat_le (limit_of w) quotient then None else Some (quotient, dividend % by)

-- the quotient of the signed numbers, rounded towards 0, and the remainder, which has the dividend's sign
unfoldable pub signed_division_of : Width → ℕ → ℕ → ℕ → Option (ℕ × ℕ)
signed_division_of w high low by =
    let dividend = signed_joined_of w high low in
    let quotient = int_div dividend (signed_of w by) in
    let remainder = int_rem dividend (signed_of w by) in
    if by == 0 || not (fits_signed w quotient) then None else Some (wrapped_of w quotient, wrapped_of w remainder)
