-- Operands as numbers (8086 Family User's Manual, chapter 2): a byte or a word, read without a sign or in two's
-- complement, and the flags of a result.
use Rattle.std.specs.Prelude.{ℕ, ◌-◌, ◌%◌, ◌^◌, ◌==◌, nat_le, Bool, true, false, not, ◌&&◌, if◌then◌else◌, ℤ, pos}
use Rattle.std.specs.Prelude.{negsuc, neg_ℤ, ◌-ℤ◌, int_lt, int_le}
use Rattle.std.specs.Int.{bit_at, int_div_euclid}
use Rattle.dcc_num.specs.declared.Width.{Width}
use Rattle.dcc_num.specs.declared.Width.TheVariants.{Byte, Word}
use Rattle.dcc_num.specs.declared.Flags.{Flags}

-- the bits of an operand
abbrev pub bits_of : Width → ℕ
bits_of Byte = 8
bits_of Word = 16

-- the least number that an operand has no room for: 256 or 65,536
abbrev pub limit_of : Width → ℕ
limit_of w = 2 ^ bits_of w

-- the least number with the sign bit: 128 or 32,768
abbrev pub half_of : Width → ℕ
half_of w = 2 ^ (bits_of w - 1)

-- the sign bit is set
abbrev pub has_sign : Width → ℕ → Bool
has_sign w a = nat_le (half_of w) a

-- bit k of a number is set, counted from the lowest
abbrev pub is_set : ℕ → ℕ → Bool
is_set n k = bit_at n k == 1

-- one of the two holds, and the other does not
abbrev pub differ : Bool → Bool → Bool
differ true b = not b
differ false b = b

-- the number that the bits stand for in two's complement
unfoldable pub signed_of : Width → ℕ → ℤ
signed_of w a = if has_sign w a then pos a -ℤ pos (limit_of w) else pos a

-- a signed number divided by 2 ^ n, rounded down
abbrev pub halved_of : ℤ → ℕ → ℤ
halved_of z n = int_div_euclid z (pos (2 ^ n))

-- what is left of a number in m values: the number modulo m, from 0 to m - 1
abbrev pub residue_of : ℕ → ℤ → ℕ
residue_of m (pos n) = n % m
residue_of m (negsuc n) = m - 1 - n % m

-- the bits of a number in two's complement
abbrev pub wrapped_of : Width → ℤ → ℕ
wrapped_of w z = residue_of (limit_of w) z

-- a byte, sign-extended to a word
unfoldable pub sign_extension_of : ℕ → ℕ
sign_extension_of a = wrapped_of Word (signed_of Byte a)

-- a number is among those that two's complement has: -128 to 127 or -32,768 to 32,767
unfoldable pub fits_signed : Width → ℤ → Bool
fits_signed w z = int_le (neg_ℤ (pos (half_of w))) z && int_lt z (pos (half_of w))

-- no flag is set
abbrev pub no_flags : Flags
no_flags = record { cf = false; zf = false; sf = false; of = false }

-- ZF and SF of a result, beside the given CF and OF
unfoldable pub result_flags : Width → ℕ → Bool → Bool → Flags
result_flags w r carry overflow = record { cf = carry; zf = r == 0; sf = has_sign w r; of = overflow }
