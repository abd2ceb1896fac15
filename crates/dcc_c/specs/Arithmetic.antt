-- The operators on numbers (ISO/IEC 9899:1990, 6.3.3 to 6.3.14), on two's complement bit patterns. What the standard
-- leaves open is settled here: sums wrap, a negative number keeps its sign in a right shift, and a count that is
-- negative or not below the width shifts all bits out.
use Rattle.std.specs.Prelude.{ℕ, ◌+◌, ◌-◌, ◌*◌, ◌/◌, ◌%◌, ◌^◌, ◌==◌, Bool, ◌&&◌, ◌||◌, not, nat_le, nat_lt}
use Rattle.std.specs.Prelude.{if◌then◌else◌}
use Rattle.dcc_c.specs.declared.syntax.Base.{Base}
use Rattle.dcc_c.specs.Types.{bits_of, is_signed, wrapped_bits, is_negative}

-- the number with the other sign
abbrev pub negated : Base → ℕ → ℕ
negated type n = wrapped_bits type (2 ^ bits_of type - n)

abbrev pub complement : Base → ℕ → ℕ
complement type n = 2 ^ bits_of type - 1 - n

abbrev pub difference : Base → ℕ → ℕ → ℕ
difference type a b = wrapped_bits type (a + 2 ^ bits_of type - b)

-- the number without its sign
abbrev pub magnitude : Base → ℕ → ℕ
magnitude type n = if is_negative type n then 2 ^ bits_of type - n else n

abbrev pub with_sign : Bool → Base → ℕ → ℕ
with_sign negative type n = if negative then negated type n else n

-- both numbers are below 0, or neither is
abbrev pub same_sign : Base → ℕ → ℕ → Bool
same_sign type a b = if is_negative type a then is_negative type b else not (is_negative type b)

-- the division has no quotient: the divisor is 0, or the least number is divided by -1
abbrev pub division_faults : Base → ℕ → ℕ → Bool
division_faults type a b =
    b == 0 || is_signed type && (a == 2 ^ (bits_of type - 1) && b == 2 ^ bits_of type - 1)

-- the quotient, which is cut towards 0
abbrev pub quotient : Base → ℕ → ℕ → ℕ
quotient type a b = with_sign (not (same_sign type a b)) type (magnitude type a / magnitude type b)

-- the remainder, which has the dividend's sign
abbrev pub remainder : Base → ℕ → ℕ → ℕ
remainder type a b = with_sign (is_negative type a) type (magnitude type a % magnitude type b)

-- the numbers of a type in their order, from 0
abbrev pub rank : Base → ℕ → ℕ
rank type n = if is_signed type then (n + 2 ^ (bits_of type - 1)) % 2 ^ bits_of type else n

abbrev pub is_less : Base → ℕ → ℕ → Bool
is_less type a b = nat_lt (rank type a) (rank type b)

-- a count of another type shifts all bits out
abbrev pub is_past : Base → Base → ℕ → Bool
is_past type of_count count = is_negative of_count count || nat_le (bits_of type) count

abbrev pub shifted_left : Base → ℕ → Base → ℕ → ℕ
shifted_left type n of_count count = if is_past type of_count count then 0 else wrapped_bits type (n * 2 ^ count)

-- a negative number is shifted as its complement, so that copies of the sign come in
abbrev pub shifted_right : Base → ℕ → Base → ℕ → ℕ
shifted_right type n of_count count =
    if is_negative type n then
    complement type (if is_past type of_count count then 0 else complement type n / 2 ^ count)
    else if is_past type of_count count then 0 else n / 2 ^ count
