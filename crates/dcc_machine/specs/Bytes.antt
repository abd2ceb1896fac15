-- Bytes and little-endian words in a list of bytes.
use Rattle.std.specs.Prelude.{ℕ, ◌+◌, ◌*◌, ◌/◌, ◌%◌, List, slice_index, slice_set}

-- the byte at an index, or 0 past the end
abbrev pub byte_at : List ℕ → ℕ → ℕ
byte_at bytes at = slice_index bytes at

-- the word at an index, its low byte first
unfoldable pub word_at : List ℕ → ℕ → ℕ
word_at bytes at = byte_at bytes at + 256 * byte_at bytes (at + 1)

-- the bytes with a word written at an index, its low byte first
unfoldable pub with_word_at : List ℕ → ℕ → ℕ → List ℕ
with_word_at bytes at word = slice_set (slice_set bytes at (word % 256)) (at + 1) (word / 256)
