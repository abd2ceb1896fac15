-- What `{:02x}` writes of the bytes of an offset; names that end with offsets are names of the grammar, and differ where
-- the offsets do.
use Rattle.std.proofs.Common.{◌≡◌, ◌≢◌, ℕ, zero, suc, ◌-◌, ◌/◌, ◌%◌, ◌<◌, ◌^◌, true, false, List, [], ◌∷◌, refl, sym, ap, ap₂, ◌∙◌, arith}
use Rattle.std.specs.Prelude.{◌&&◌, not, nat_lt, if◌then◌else◌}
use Rattle.std.specs.List.{list_all}
use Rattle.std.specs.Fmt.{digits, digit_glyph, padded_integral, format_spec}
use Rattle.std.proofs.lemmas.Bool.{and_from, eq-eqb, false_from_ne_true, not_from_false}
use Rattle.std.proofs.lemmas.Bool.Decides.{nat_tests}
use Rattle.std.proofs.lemmas.Fmt.{hex_byte}
use Rattle.dcc_c.specs.Grammar.{is_name, is_among, keywords}
use Rattle.dcc_c.specs.Token.{is_letter, is_word, is_word_byte, same_bytes}
use Rattle.dcc_c.specs.Tree.{Word}
use Rattle.dcc_c.proofs.NameLaws.{same_bytes-equal}
use Rattle.dcc_text.specs.Hex.{four_digits, name_at}

-- What is written.

-- a byte as `{:02x}` writes it
abbrev pub written : ℕ → List ℕ
written byte = padded_integral (format_spec 32 0 4 2 (2 ^ 64 - 1)) false [] (digits 16 false byte)

pub high_written : (at : ℕ) → at < 2 ^ 16 → written (at / 256) ≡ digit_glyph false (at / 4096 % 16) ∷ digit_glyph false (at / 256 % 16) ∷ []
high_written at small =
    let first : at / 256 / 16 ≡ at / 4096 % 16 = omega (arith, small) in
    hex_byte false (at / 256) (omega (arith, small)) ∙ ap (λ n. digit_glyph false n ∷ digit_glyph false (at / 256 % 16) ∷ []) first

pub low_written : (at : ℕ) → written (at % 256) ≡ digit_glyph false (at / 16 % 16) ∷ digit_glyph false (at % 16) ∷ []
low_written at =
    let first : at % 256 / 16 ≡ at / 16 % 16 = omega arith in
    let last : at % 256 % 16 ≡ at % 16 = omega arith in
    hex_byte false (at % 256) (omega arith) ∙ ap₂ (λ m n. digit_glyph false m ∷ digit_glyph false n ∷ []) first last

-- Names.

digit-byte : (n : ℕ) → n < 16 → is_word_byte (digit_glyph false n) ≡ true
digit-byte n small = grind (arith, nat_tests)

low_digit : (n : ℕ) → is_word_byte (digit_glyph false (n % 16)) ≡ true
low_digit n = digit-byte (n % 16) (omega arith)

digit-bytes : (at : ℕ) → list_all is_word_byte (four_digits at) ≡ true
digit-bytes at =
    and_from _ _ (low_digit (at / 4096)) (and_from _ _ (low_digit (at / 256)) (and_from _ _ (low_digit (at / 16)) (and_from _ true (low_digit at) refl)))

-- a letter and an underscore begin a name, where no keyword begins so
pub name_at-name : (letter at : ℕ) → is_letter letter ≡ true → ((bytes : Word) → is_among keywords (letter ∷ 95 ∷ bytes) ≡ false) → is_name (name_at (letter ∷ 95 ∷ []) at) ≡ true
name_at-name letter at is other =
    and_from (is_word (name_at (letter ∷ 95 ∷ []) at)) (not (is_among keywords (name_at (letter ∷ 95 ∷ []) at)))
    (and_from (is_letter letter) _ is (and_from (list_all is_word_byte (four_digits at)) true (digit-bytes at) refl))
    (not_from_false (is_among keywords (name_at (letter ∷ 95 ∷ []) at)) (other (four_digits at)))

-- the number of a digit
digit_of : ℕ → ℕ
digit_of glyph = if nat_lt glyph 58 then glyph - 48 else glyph - 87

digit-back : (n : ℕ) → digit_of (digit_glyph false n) ≡ n
unfolding digit_of
digit-back n = grind (arith, nat_tests)

digits-equal : (m n : ℕ) → digit_glyph false m ≡ digit_glyph false n → m ≡ n
digits-equal m n e = sym (digit-back m) ∙ ap digit_of e ∙ digit-back n

-- the element at a place
element : ℕ → List ℕ → ℕ
element n [] = 0
element zero (x ∷ xs) = x
element (suc n) (x ∷ xs) = element n xs

offsets-equal : (a b : ℕ) → a < 65536 → b < 65536 → four_digits a ≡ four_digits b → a ≡ b
unfolding element
offsets-equal a b first second e =
    let d3 : a / 4096 % 16 ≡ b / 4096 % 16 = digits-equal (a / 4096 % 16) (b / 4096 % 16) (ap (element 0) e) in
    let d2 : a / 256 % 16 ≡ b / 256 % 16 = digits-equal (a / 256 % 16) (b / 256 % 16) (ap (element 1) e) in
    let d1 : a / 16 % 16 ≡ b / 16 % 16 = digits-equal (a / 16 % 16) (b / 16 % 16) (ap (element 2) e) in
    let d0 : a % 16 ≡ b % 16 = digits-equal (a % 16) (b % 16) (ap (element 3) e) in
    omega (arith, d3, d2, d1, d0, first, second)

offsets-differ : (a b : ℕ) → a < 65536 → b < 65536 → a ≢ b → same_bytes (four_digits a) (four_digits b) ≡ false
offsets-differ a b first second apart =
    false_from_ne_true (same_bytes (four_digits a) (four_digits b))
    (λ same. apart (offsets-equal a b first second (same_bytes-equal (four_digits a) (four_digits b) same)))

pub name_at-differ : (prefix : Word) (a b : ℕ) → a < 65536 → b < 65536 → a ≢ b → same_bytes (name_at prefix a) (name_at prefix b) ≡ false
name_at-differ [] a b first second apart = offsets-differ a b first second apart
name_at-differ (x ∷ prefix) a b first second apart =
    ap (λ same. same && same_bytes (name_at prefix a) (name_at prefix b)) (eq-eqb x x refl) ∙ name_at-differ prefix a b first second apart
