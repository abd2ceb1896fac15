-- Offsets as they are written.
use Rattle.std.specs.Prelude.{ℕ, ◌+◌, ◌/◌, ◌%◌, nat_lt, if◌then◌else◌, List, [], ◌∷◌}

-- a hexadecimal digit, in upper case
abbrev pub hex_digit : ℕ → ℕ
hex_digit n = if nat_lt n 10 then 48 + n else 55 + n

-- an offset, as four hexadecimal digits
abbrev pub hex_offset : ℕ → List ℕ
hex_offset at =
    hex_digit (at / 4096) ∷ hex_digit (at / 256 % 16) ∷ hex_digit (at / 16 % 16) ∷ hex_digit (at % 16) ∷ []
