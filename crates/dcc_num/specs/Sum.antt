-- ADD, ADC, SUB, SBB, CMP, NEG, INC and DEC: each gives the result and the flags.
use Rattle.std.specs.Prelude.{ℕ, ◌+◌, ◌-◌, ◌%◌, nat_lt, nat_le, Bool, false, not, pos, ◌+ℤ◌, ◌-ℤ◌}
use Rattle.std.specs.Int.{from_bool}
use Rattle.dcc_num.specs.declared.Width.{Width}
use Rattle.dcc_num.specs.declared.Flags.{Flags}
use Rattle.dcc_num.specs.Numbers.{limit_of, signed_of, fits_signed, result_flags}

-- a + b + carry modulo 2 to the width. CF: the plain sum passes the width. OF: the sum of the signed numbers does not
-- fit
unfoldable pub sum_of : Width → ℕ → ℕ → Bool → ℕ × Flags
sum_of w a b carry =
    let total = a + b + from_bool carry in
    let exact = signed_of w a +ℤ signed_of w b +ℤ pos (from_bool carry) in
    let r = total % limit_of w in
    (r, result_flags w r (nat_le (limit_of w) total) (not (fits_signed w exact)))

-- a - b - borrow modulo 2 to the width. CF: b and the borrow are above a. OF: the difference of the signed numbers does
-- not fit
unfoldable pub difference_of : Width → ℕ → ℕ → Bool → ℕ × Flags
difference_of w a b borrow =
    let less = b + from_bool borrow in
    let exact = signed_of w a -ℤ signed_of w b -ℤ pos (from_bool borrow) in
    let r = (a + limit_of w - less) % limit_of w in
    (r, result_flags w r (nat_lt a less) (not (fits_signed w exact)))

-- 0 - a
unfoldable pub negation_of : Width → ℕ → ℕ × Flags
negation_of w a = difference_of w 0 a false

-- a result with its flags, but with CF as it was before
abbrev pub keeping_carry : Flags → ℕ × Flags → ℕ × Flags
keeping_carry was (r, flags) = (r, record flags { cf = was.cf })

-- a + 1, with CF as it was
unfoldable pub increment_of : Width → ℕ → Flags → ℕ × Flags
increment_of w a was = keeping_carry was (sum_of w a 1 false)

-- a - 1, with CF as it was
unfoldable pub decrement_of : Width → ℕ → Flags → ℕ × Flags
decrement_of w a was = keeping_carry was (difference_of w a 1 false)
