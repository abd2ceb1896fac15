-- Offsets as they are written: four hexadecimal digits.
use Rattle.std.specs.Prelude.{ℕ, ◌/◌, ◌%◌, false, List, [], ◌∷◌, ◌++◌}
use Rattle.std.specs.Fmt.{digit_glyph}
use Rattle.dcc_c.specs.Tree.{Word}

-- the digits of an offset below 65536, in lower case
abbrev pub four_digits : ℕ → List ℕ
four_digits at =
    digit_glyph false (at / 4096 % 16)
    ∷ digit_glyph false (at / 256 % 16)
    ∷ digit_glyph false (at / 16 % 16)
    ∷ digit_glyph false (at % 16)
    ∷ []

-- the name of what stands at an offset: a prefix that says what it is, and the offset's digits
abbrev pub name_at : Word → ℕ → Word
name_at prefix at = prefix ++ four_digits at
