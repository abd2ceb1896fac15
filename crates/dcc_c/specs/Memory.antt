-- Memory: 65,536 bytes, at addresses that wrap; the low byte of a value stands first.
use Rattle.std.specs.Prelude.{ℕ, zero, suc, ◌+◌, ◌*◌, ◌/◌, ◌%◌, List, slice_index, slice_set}

abbrev pub byte_at : List ℕ → ℕ → ℕ
byte_at memory at = slice_index memory (at % 65536)

-- the number in `count` bytes from an address on
abbrev pub load : ℕ → List ℕ → ℕ → ℕ
load zero memory at = 0
load (suc count) memory at = byte_at memory at + 256 * load count memory (at + 1)

-- the memory after `count` bytes from an address on have taken a number
abbrev pub store : ℕ → List ℕ → ℕ → ℕ → List ℕ
store zero memory at n = memory
store (suc count) memory at n = store count (slice_set memory (at % 65536) (n % 256)) (at + 1) (n / 256)
