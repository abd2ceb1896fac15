-- The DOS calls of the inner language (Microsoft MS-DOS Programmer's Reference, functions 01h, 02h, 08h, 09h and 4Ch).
use Rattle.std.specs.Prelude.{ℕ, ◌+◌, ◌==◌, Bool, not, List, map, take_while}
use Rattle.std.specs.List.{range_with_len}
use Rattle.dcc_ir.specs.Value.{byte_at}

-- whether a byte is another than the `$` that ends a string
abbrev pub is_not_dollar : ℕ → Bool
is_not_dollar byte = not (byte == 0x24)

-- the bytes from an address on up to the first `$`, which is not one of them, and at most 65,536
unfoldable pub dos_string : List ℕ → ℕ → List ℕ
dos_string memory address = take_while is_not_dollar (map (λ k. byte_at memory (address + k)) (range_with_len 0 65536))
