-- The written form of a text can hold its global variables.
use Rattle.std.proofs.Common.{◌≡◌, ℕ, ◌+◌, ◌*◌, ◌<◌, ◌≤◌, ◌==◌, Bool, true, false, List, [], ◌∷◌, length, take, Some, None, refl, ap, ◌∙◌, arith}
use Rattle.std.specs.Prelude.{◌&&◌, nat_le, if◌then◌else◌, codes, All}
use Rattle.std.specs.List.{list_all}
use Rattle.std.proofs.lemmas.Bool.{and_from, le-leb}
use Rattle.std.proofs.lemmas.List.Elements.{All-head, All-tail, All-take}
use Rattle.dcc_c.specs.Grammar.{is_name}
use Rattle.dcc_c.specs.Tree.{Word, Global}
use Rattle.dcc_c.proofs.Writable.{is_small, is_small_if, is_writable_global}
use Rattle.dcc_text.specs.Hex.{name_at}
use Rattle.dcc_text.proofs.HexLaws.{name_at-name}
use Rattle.dcc_globals.specs.Pieces.{Data}
use Rattle.dcc_globals.specs.Gaps.{begins, extent}
use Rattle.dcc_globals.specs.Globals.{number_of, significant, scalar_values, scalar, array, bytes_at, global_at, globals_of}
use Rattle.dcc_globals.proofs.Extents.{extent-some, extent-fits}
use Rattle.dcc_globals.proofs.Placed.{IsEither, a_byte, a_word, an_array, either, bytes-short, bytes-all, all-pass}
use Rattle.dcc_globals.proofs.Written.{IsByte}

scalar-name : (at : ℕ) → is_name (name_at (codes "g_") at) ≡ true
scalar-name at = name_at-name 103 at refl (λ bytes. refl)

array-name : (at : ℕ) → is_name (name_at (codes "d_") at) ≡ true
array-name at = name_at-name 100 at refl (λ bytes. refl)

small-number : (n : ℕ) → n < 65537 → is_small n ≡ true
small-number n less = le-leb n 4294967295 (omega (arith, less))

bytes-small : (bytes : List ℕ) → All IsByte bytes → list_all is_small bytes ≡ true
bytes-small [] are = refl
bytes-small (b ∷ bytes) are =
    let small : b < 256 = All-head IsByte b bytes are in
    and_from (is_small b) (list_all is_small bytes) (small-number b (omega (arith, small))) (bytes-small bytes (All-tail IsByte b bytes are))

number-small : (bytes : List ℕ) → length bytes ≤ 2 → All IsByte bytes → number_of bytes < 65536
number-small [] short are = omega arith
number-small (a ∷ []) short are = let h : a < 256 = All-head IsByte a [] are in omega (arith, h)
number-small (a ∷ b ∷ []) short are =
    let h : a < 256 = All-head IsByte a (b ∷ []) are in
    let g : b < 256 = All-head IsByte b [] (All-tail IsByte a (b ∷ []) are) in
    omega (arith, h, g)
number-small (a ∷ b ∷ c ∷ bytes) short are = absurd (omega (arith, short))

values-small : (bytes : List ℕ) → length bytes ≤ 2 → All IsByte bytes → list_all is_small (scalar_values bytes) ≡ true
values-small bytes short are = by (number_of bytes == 0)
  where
    by : (t : Bool) → list_all is_small (if t then [] else number_of bytes ∷ []) ≡ true
    by true = refl
    by false = and_from (is_small (number_of bytes)) true (small-number (number_of bytes) (let h = number-small bytes short are in omega (arith, h))) refl

scalar-writable : (at size : ℕ) (bytes : List ℕ) → at < 65536 → length bytes ≤ 2 → All IsByte bytes → is_writable_global (scalar at size bytes) ≡ true
scalar-writable at size bytes inside short are =
    and_from (is_name (name_at (codes "g_") at)) _ (scalar-name at)
    (and_from (is_small at) _ (small-number at (omega (arith, inside))) (values-small bytes short are))

array-writable : (at size : ℕ) (bytes : List ℕ) → at < 65536 → size ≤ 65536 → All IsByte bytes → is_writable_global (array at size bytes) ≡ true
array-writable at size bytes inside fits are =
    and_from (is_name (name_at (codes "d_") at)) _ (array-name at)
    (and_from (is_small at) _ (small-number at (omega (arith, inside)))
    (and_from (is_small size) _ (small-number size (omega (arith, fits))) (bytes-small (take (significant bytes) bytes) (All-take IsByte (significant bytes) bytes are))))

either-writable : (d : Data) (at size : ℕ) (g : Global) → at < 65536 → at + size ≤ 65536 → All IsByte d.bytes → IsEither d at size g → is_writable_global g ≡ true
either-writable d at size g inside fits are (a_byte one is) =
    ap is_writable_global is ∙ scalar-writable at 1 (bytes_at d at 1) inside (let h = bytes-short d at 1 in omega (arith, h)) (bytes-all d at 1 are)
either-writable d at size g inside fits are (a_word two is) =
    ap is_writable_global is ∙ scalar-writable at 2 (bytes_at d at 2) inside (bytes-short d at 2) (bytes-all d at 2 are)
either-writable d at size g inside fits are (an_array is) =
    ap is_writable_global is ∙ array-writable at size (bytes_at d at size) inside (omega (arith, fits)) (bytes-all d at size are)

pub globals-writable : (d : Data) → All IsByte d.bytes → list_all is_writable_global (globals_of d) ≡ true
unfolding globals_of
globals-writable d are =
    all-pass d is_writable_global (λ at inside is. either-writable d at (extent d at) (global_at d at) inside (extent-fits d at inside) are (either d at)) 0 65536 (omega arith)
