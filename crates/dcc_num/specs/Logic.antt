-- AND, OR, XOR and TEST: each gives the result and the flags, with CF and OF clear.
use Rattle.std.specs.Prelude.{ℕ, bit_and, bit_or, bit_xor, false}
use Rattle.dcc_num.specs.declared.Width.{Width}
use Rattle.dcc_num.specs.declared.Flags.{Flags}
use Rattle.dcc_num.specs.Numbers.{result_flags}

-- the bits that are in both
unfoldable pub conjunction_of : Width → ℕ → ℕ → ℕ × Flags
conjunction_of w a b = (bit_and a b, result_flags w (bit_and a b) false false)

-- the bits that are in one of the two, or in both
unfoldable pub disjunction_of : Width → ℕ → ℕ → ℕ × Flags
disjunction_of w a b = (bit_or a b, result_flags w (bit_or a b) false false)

-- the bits that are in one of the two only
unfoldable pub exclusive_of : Width → ℕ → ℕ → ℕ × Flags
exclusive_of w a b = (bit_xor a b, result_flags w (bit_xor a b) false false)
