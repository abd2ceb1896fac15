-- The string that the DOS call writes: memory is one segment at the first address.
use Rattle.std.specs.Prelude.{slice_index}
use Rattle.std.proofs.Common.{◌≡◌, ℕ, ◌+◌, ◌*◌, ◌%◌, List, [], ◌∷◌, map, ap, ap₂, refl, arith}
use Rattle.std.specs.List.{range_with_len, take_while}
use Rattle.dcc_c.specs.Memory.{byte_at}
use Rattle.dcc_c.specs.Dos.{is_not_dollar, string_at}
use Rattle.dcc_console.specs.Strings.{byte_in, string_room, string_in}

map-same : (f g : ℕ → ℕ) (xs : List ℕ) → ((k : ℕ) → f k ≡ g k) → map f xs ≡ map g xs
map-same f g [] each = refl
map-same f g (x ∷ xs) each = ap₂ (λ y ys. y ∷ ys) (each x) (map-same f g xs each)

byte-is : (memory : List ℕ) (at : ℕ) → byte_in memory 0 at ≡ byte_at memory at
byte-is memory at = let wraps : (0 * 16 + at % 65536) % 1048576 ≡ at % 65536 = omega arith in ap (slice_index memory) wraps

pub string_is : (memory : List ℕ) (at : ℕ) → string_in memory 0 at ≡ string_at memory at
unfolding string_in string_room string_at
string_is memory at =
    ap (take_while is_not_dollar)
    (map-same (λ k. byte_in memory 0 (at + k)) (λ k. byte_at memory (at + k)) (range_with_len 0 65536) (λ k. byte-is memory (at + k)))
