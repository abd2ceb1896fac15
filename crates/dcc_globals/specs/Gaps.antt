-- The runs of bytes of the data segment that are accessed at fixed offsets, the gaps between them, and where these are
-- cut. A border is named by the offset behind it.
use Rattle.std.specs.Prelude.{ℕ, zero, suc, ◌+◌, ◌-◌, ◌==◌, nat_le, nat_lt, Bool, true, false, ◌&&◌, ◌||◌, not}
use Rattle.std.specs.Prelude.{if◌then◌else◌, min, length, slice_index}
use Rattle.std.specs.List.{list_any}
use Rattle.dcc_globals.specs.Pieces.{Data, pieces, is_in_stack, has_byte, crosses, is_displaced_by}

-- how many offsets from this one on pass a test one after another, of at most so many; `count_before`: how many
-- directly before this one
abbrev pub count_from : (ℕ → Bool) → ℕ → ℕ → ℕ
count_from test zero at = 0
count_from test (suc most) at = if test at then suc (count_from test most (at + 1)) else 0

abbrev pub count_before : (ℕ → Bool) → ℕ → ℕ
count_before test zero = 0
count_before test (suc at) = if test at then suc (count_before test at) else 0

-- a piece has the byte at the offset
unfoldable pub is_in_run : Data → ℕ → Bool
is_in_run d at = list_any (has_byte at) (pieces d)

-- a piece has bytes on both sides of the border
unfoldable pub is_crossed : Data → ℕ → Bool
is_crossed d at = list_any (crosses at) (pieces d)

-- a byte of the image off the stack that is in no run
unfoldable pub is_in_gap : Data → ℕ → Bool
is_in_gap d at = nat_lt at (min 65536 (length d.bytes)) && (not (is_in_stack d.lo d.hi at) && not (is_in_run d at))

-- Text runs: four or more bytes of text in a gap, as many as stand together, with one 0 in the gap directly behind.

-- a printable character, a space, a tab or the end of a line
abbrev pub is_text_byte : ℕ → Bool
is_text_byte byte = (nat_le 32 byte && nat_le byte 126) || ((byte == 9) || ((byte == 10) || (byte == 13)))

unfoldable pub is_text : Data → ℕ → Bool
is_text d at = is_in_gap d at && is_text_byte (slice_index d.bytes at)

-- a 0 in a gap
unfoldable pub is_zero : Data → ℕ → Bool
is_zero d at = is_in_gap d at && (slice_index d.bytes at == 0)

-- how many bytes of text stand together before the border, and behind it
unfoldable pub text_before : Data → ℕ → ℕ
text_before d at = count_before (is_text d) at

unfoldable pub text_from : Data → ℕ → ℕ
text_from d at = count_from (is_text d) (65536 - at) at

-- the border is in a text run or at its begin
unfoldable pub is_at_text : Data → ℕ → Bool
is_at_text d at = nat_le 4 (text_before d at + text_from d at) && is_zero d (at + text_from d at)

-- the offset of the 0 behind a text run
unfoldable pub ends_text : Data → ℕ → Bool
ends_text d at = nat_le 4 (text_before d at) && is_zero d at

-- a `$` that ends a string of a text run: the next byte is no 0, no other `$` and no end of a line
abbrev pub ends_string : ℕ → ℕ → Bool
ends_string byte next = (byte == 36) && not ((next == 0) || ((next == 36) || ((next == 10) || (next == 13))))

-- no text stands before the border, or a string ends there
unfoldable pub begins_string : Data → ℕ → Bool
begins_string d at =
    (text_before d at == 0) || ends_string (slice_index d.bytes (at - 1)) (slice_index d.bytes at)

-- a text run begins behind the border, or a string in one
unfoldable pub begins_text : Data → ℕ → Bool
begins_text d at = is_at_text d at && begins_string d at

-- A gap is cut at the border: before and behind each text run, within one behind each `$` that ends a string, and
-- before each displacement.
unfoldable pub is_cut : Data → ℕ → Bool
is_cut d at = begins_text d at || (ends_text d (at - 1) || list_any (is_displaced_by at) d.operands)

-- the bytes before and behind the border are in one part of a gap
unfoldable pub is_within_part : Data → ℕ → Bool
is_within_part d at = is_in_gap d (at - 1) && (is_in_gap d at && not (is_cut d at))

-- the byte belongs to the global variable that has the byte before it: a piece has both, or one part of a gap does
unfoldable pub goes_on : Data → ℕ → Bool
goes_on d at = nat_lt 0 at && (is_crossed d at || is_within_part d at)

-- a global variable begins with the byte
unfoldable pub begins : Data → ℕ → Bool
begins d at = (is_in_run d at || is_in_gap d at) && not (goes_on d at)

-- how many bytes the global variable has that begins there
unfoldable pub extent : Data → ℕ → ℕ
extent d at = suc (count_from (goes_on d) (65536 - (at + 1)) (at + 1))
