-- Strings in memory, which a `$` ends.
use Rattle.std.specs.Prelude.{ℕ, ◌+◌, ◌*◌, ◌%◌, ◌==◌, Bool, not, List, map, slice_index}
use Rattle.std.specs.List.{range_with_len, take_while}
use Rattle.dcc_num.specs.declared.dos.TheConstants.{STRING_END, STRING_MOST}

-- the byte at an offset in a segment; the offset wraps at 65,536, and the address at 1,048,576
abbrev pub byte_in : List ℕ → ℕ → ℕ → ℕ
byte_in memory segment offset = slice_index memory ((segment * 16 + offset % 65536) % 1048576)

-- whether a byte is another than the `$` that ends a string
abbrev pub is_no_end : ℕ → Bool
is_no_end byte = not (byte == STRING_END)

-- the bytes that may stand in the string at an offset in a segment
unfoldable pub string_room : List ℕ → ℕ → ℕ → List ℕ
string_room memory segment start = map (λ k. byte_in memory segment (start + k)) (range_with_len 0 STRING_MOST)

-- the string at an offset in a segment: the bytes from there on up to the first `$`, which is not one of them, and at
-- most 65,536
unfoldable pub string_in : List ℕ → ℕ → ℕ → List ℕ
string_in memory segment start = take_while is_no_end (string_room memory segment start)
