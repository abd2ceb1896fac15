-- Numbers as hexadecimal digits in upper case.
use Rattle.std.specs.Prelude.{ℕ, ◌/◌, ◌%◌, true, List, [], ◌∷◌, ◌++◌}
use Rattle.std.specs.Fmt.{digit_glyph}
use Rattle.std.specs.List.{flat_map}

-- a byte, as two digits
abbrev pub hex_byte : ℕ → List ℕ
hex_byte byte = digit_glyph true (byte / 16 % 16) ∷ digit_glyph true (byte % 16) ∷ []

-- a word, as four digits
abbrev pub hex_word : ℕ → List ℕ
hex_word word = hex_byte (word / 256) ++ hex_byte word

-- bytes, each after a space
abbrev pub hex_bytes : List ℕ → List ℕ
hex_bytes bytes = flat_map (λ byte. 32 ∷ hex_byte byte) bytes
