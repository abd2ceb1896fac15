-- What `{:04X}` writes of an offset.
use Rattle.std.proofs.Common.{◌≡◌, ℕ, suc, ◌-◌, ◌/◌, ◌%◌, ◌<◌, ◌≤◌, ◌^◌, true, false, List, [], ◌∷◌, ◌⊎◌, inl, inr, ap, ◌∙◌, arith}
use Rattle.std.proofs.lemmas.Bool.Decides.{nat_tests}
use Rattle.std.proofs.lemmas.Fmt.{hex_one_digit, hex_two_digits}
use Rattle.std.specs.Prelude.{◌==◌, if◌then◌else◌}
use Rattle.std.specs.Fmt.{digits, digits_onto, digit_glyph, padded_integral, char_count, format_spec}
use Rattle.dcc_top.specs.Offset.{hex_digit, hex_offset}

onto-step : (k n : ℕ) (acc : List ℕ) → 16 ≤ n → digits_onto (suc k) 16 true n acc ≡ digits_onto k 16 true (n / 16) (digit_glyph true (n % 16) ∷ acc)
onto-step k n acc large =
    let test : (n / 16 == 0) ≡ false = grind (arith, nat_tests) in
    ap (λ b. if b then digit_glyph true (n % 16) ∷ acc else digits_onto k 16 true (n / 16) (digit_glyph true (n % 16) ∷ acc)) test

onto-last : (k n : ℕ) (acc : List ℕ) → n < 16 → digits_onto (suc k) 16 true n acc ≡ digit_glyph true (n % 16) ∷ acc
onto-last k n acc small =
    let test : (n / 16 == 0) ≡ true = grind (arith, nat_tests) in
    ap (λ b. if b then digit_glyph true (n % 16) ∷ acc else digits_onto k 16 true (n / 16) (digit_glyph true (n % 16) ∷ acc)) test

hex_three : (n : ℕ) → 256 ≤ n → n < 4096 → digits 16 true n ≡ hex_digit (n / 16 / 16 % 16) ∷ hex_digit (n / 16 % 16) ∷ hex_digit (n % 16) ∷ []
unfolding digits
hex_three n large small =
    onto-step 63 n [] (omega arith)
    ∙ onto-step 62 (n / 16) (hex_digit (n % 16) ∷ []) (omega arith)
    ∙ onto-last 61 (n / 16 / 16) (hex_digit (n / 16 % 16) ∷ hex_digit (n % 16) ∷ []) (omega arith)

hex_four : (n : ℕ) → 4096 ≤ n → n < 65536 → digits 16 true n ≡ hex_digit (n / 16 / 16 / 16 % 16) ∷ hex_digit (n / 16 / 16 % 16) ∷ hex_digit (n / 16 % 16) ∷ hex_digit (n % 16) ∷ []
unfolding digits
hex_four n large small =
    onto-step 63 n [] (omega arith)
    ∙ onto-step 62 (n / 16) (hex_digit (n % 16) ∷ []) (omega arith)
    ∙ onto-step 61 (n / 16 / 16) (hex_digit (n / 16 % 16) ∷ hex_digit (n % 16) ∷ []) (omega arith)
    ∙ onto-last 60 (n / 16 / 16 / 16) (hex_digit (n / 16 / 16 % 16) ∷ hex_digit (n / 16 % 16) ∷ hex_digit (n % 16) ∷ []) (omega arith)

below_or : (m n : ℕ) → (m < n) ⊎ (n ≤ m)
below_or m n = grind arith

-- digits as `{:04X}` writes them
abbrev padded : List ℕ → List ℕ
padded = padded_integral (format_spec 32 0 4 4 (2 ^ 64 - 1)) false []

one : (at : ℕ) → at < 16 → padded (digits 16 true at) ≡ hex_offset at
unfolding padded_integral char_count
one at small =
    let a : at / 4096 ≡ 0 = omega arith in
    let b : at / 256 % 16 ≡ 0 = omega arith in
    let c : at / 16 % 16 ≡ 0 = omega arith in
    let d : at % 16 ≡ at = omega arith in
    rw (hex_one_digit true at small, a, b, c, d)

two : (at : ℕ) → 16 ≤ at → at < 256 → padded (digits 16 true at) ≡ hex_offset at
unfolding padded_integral char_count
two at large small =
    let a : at / 4096 ≡ 0 = omega arith in
    let b : at / 256 % 16 ≡ 0 = omega arith in
    let c : at / 16 % 16 ≡ at / 16 = omega arith in
    rw (hex_two_digits true at large small, a, b, c)

three : (at : ℕ) → 256 ≤ at → at < 4096 → padded (digits 16 true at) ≡ hex_offset at
unfolding padded_integral char_count
three at large small =
    let a : at / 4096 ≡ 0 = omega arith in
    let b : at / 16 / 16 ≡ at / 256 = omega arith in
    rw (hex_three at large small, a, b)

four : (at : ℕ) → 4096 ≤ at → at < 65536 → padded (digits 16 true at) ≡ hex_offset at
unfolding padded_integral char_count
four at large small =
    let a : at / 16 / 16 / 16 % 16 ≡ at / 4096 = omega arith in
    let b : at / 16 / 16 ≡ at / 256 = omega arith in
    rw (hex_four at large small, a, b)

pub hex_offset-padded : (at : ℕ) → at < 2 ^ 16 → padded (digits 16 true at) ≡ hex_offset at
hex_offset-padded at small = elim (below_or at 16) [
  | inl h ↦ one at h
  | inr h ↦ elim (below_or at 256) [
    | inl i ↦ two at h i
    | inr i ↦ elim (below_or at 4096) [ inl j ↦ three at i j | inr j ↦ four at j small ]
  ]
]
