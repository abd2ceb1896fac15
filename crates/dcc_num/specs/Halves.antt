-- Words and their halves (8086 Family User's Manual, chapter 2).
use Rattle.std.specs.Prelude.{ℕ, ◌+◌, ◌*◌, ◌/◌, ◌%◌}
use Rattle.dcc_num.specs.declared.Half.{Half}
use Rattle.dcc_num.specs.declared.Half.TheVariants.{Low, High}

-- one byte of a word
abbrev pub half_of_word : Half → ℕ → ℕ
half_of_word Low word = word % 256
half_of_word High word = word / 256

-- a word after one of its bytes has taken a value
abbrev pub word_with_half : Half → ℕ → ℕ → ℕ
word_with_half Low word byte = word / 256 * 256 + byte
word_with_half High word byte = byte * 256 + word % 256
