-- The values of decimal digits.
use Rattle.std.specs.Prelude.{ℕ, Bool, false, ◌&&◌, ◌||◌, not, ◌==◌, nat_le, if◌then◌else◌, List, [], ◌∷◌, length}
use Rattle.std.specs.Prelude.{Option, Some, None}
use Rattle.std.specs.Fmt.{decimal}
use Rattle.dcc_c.specs.Token.{same_bytes}
use Rattle.dcc_c.specs.Pieces.{decimal_from}

-- one to ten digits, without a needless zero
abbrev pub is_short : List ℕ → Bool
is_short [] = false
is_short (b ∷ bytes) = (length (b ∷ bytes) == 1) || (nat_le (length (b ∷ bytes)) 10 && not (b == 48))

-- the value of digits without a needless zero, if it is at most 4294967295
unfoldable pub decimal_value : List ℕ → Option ℕ
decimal_value digits =
    let n = decimal_from 0 digits in
    if same_bytes digits (decimal n) && nat_le n 4294967295 then Some n else None
