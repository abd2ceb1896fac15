-- The label of an offset, by its digits.
use Rattle.std.proofs.Common.{◌≡◌, ℕ, ◌+◌, ◌*◌, ◌/◌, ◌%◌, ◌<◌, ◌≤◌, ◌⊎◌, false, List, [], ◌∷◌, length, get_or, inl, inr, refl, sym, ap, ◌∙◌, arith}
use Rattle.std.specs.Prelude.{◌==◌, nat_lt}
use Rattle.std.specs.Fmt.{digit_glyph}
use Rattle.std.proofs.lemmas.Bool.{cases_eq, cases_lt, eq-eqb, ne_eqb, lt-ltb, le-ltb, cond-true, cond-false}
use Rattle.dcc_c.specs.Token.{same_bytes}
use Rattle.dcc_c.proofs.NameLaws.{same_bytes-refl}
use Rattle.dcc_text.specs.Hex.{four_digits}
use Rattle.dcc_text.proofs.HexLaws.{name_at-differ}
use Rattle.dcc_shape.specs.Shape.{label_of}

four-digits : (a b c d : ℕ) → a < 16 → b < 16 → c < 16 → d < 16 →
    four_digits (256 * (16 * a + b) + (16 * c + d))
    ≡ digit_glyph false a ∷ digit_glyph false b ∷ digit_glyph false c ∷ digit_glyph false d ∷ []
four-digits a b c d fa fb fc fd =
    let at = 256 * (16 * a + b) + (16 * c + d) in
    let is_a : at / 4096 % 16 ≡ a = omega arith in
    let is_b : at / 256 % 16 ≡ b = omega arith in
    let is_c : at / 16 % 16 ≡ c = omega arith in
    let is_d : at % 16 ≡ d = omega arith in
    ap (λ n. digit_glyph false n ∷ digit_glyph false (at / 256 % 16) ∷ digit_glyph false (at / 16 % 16) ∷ digit_glyph false (at % 16) ∷ []) is_a
    ∙ ap (λ n. digit_glyph false a ∷ digit_glyph false n ∷ digit_glyph false (at / 16 % 16) ∷ digit_glyph false (at % 16) ∷ []) is_b
    ∙ ap (λ n. digit_glyph false a ∷ digit_glyph false b ∷ digit_glyph false n ∷ digit_glyph false (at % 16) ∷ []) is_c
    ∙ ap (λ n. digit_glyph false a ∷ digit_glyph false b ∷ digit_glyph false c ∷ digit_glyph false n ∷ []) is_d

six : (l : List ℕ) → length l ≡ 6 →
    l ≡ get_or l 0 0 ∷ get_or l 1 0 ∷ get_or l 2 0 ∷ get_or l 3 0 ∷ get_or l 4 0 ∷ get_or l 5 0 ∷ []
six ([]) long = absurd (omega (arith, long))
six (a ∷ []) long = absurd (omega (arith, long))
six (a ∷ b ∷ []) long = absurd (omega (arith, long))
six (a ∷ b ∷ c ∷ []) long = absurd (omega (arith, long))
six (a ∷ b ∷ c ∷ d ∷ []) long = absurd (omega (arith, long))
six (a ∷ b ∷ c ∷ d ∷ e ∷ []) long = absurd (omega (arith, long))
six (a ∷ b ∷ c ∷ d ∷ e ∷ f ∷ []) long = refl
six (a ∷ b ∷ c ∷ d ∷ e ∷ f ∷ g ∷ l) long = absurd (omega (arith, long))

-- a text of six bytes, two that are those of a label and four digits
pub label-read : (l : List ℕ) (a b c d : ℕ) → length l ≡ 6 → get_or l 0 0 ≡ 76 → get_or l 1 0 ≡ 95 →
    (a < 16) × (digit_glyph false a ≡ get_or l 2 0) → (b < 16) × (digit_glyph false b ≡ get_or l 3 0) →
    (c < 16) × (digit_glyph false c ≡ get_or l 4 0) → (d < 16) × (digit_glyph false d ≡ get_or l 5 0) →
    l ≡ label_of (256 * (16 * a + b) + (16 * c + d))
label-read l a b c d long first second da db dc dd =
    six l long
    ∙ ap (λ k. k ∷ get_or l 1 0 ∷ get_or l 2 0 ∷ get_or l 3 0 ∷ get_or l 4 0 ∷ get_or l 5 0 ∷ []) first
    ∙ ap (λ k. 76 ∷ k ∷ get_or l 2 0 ∷ get_or l 3 0 ∷ get_or l 4 0 ∷ get_or l 5 0 ∷ []) second
    ∙ ap (λ k. 76 ∷ 95 ∷ k ∷ get_or l 3 0 ∷ get_or l 4 0 ∷ get_or l 5 0 ∷ []) (sym da.1)
    ∙ ap (λ k. 76 ∷ 95 ∷ digit_glyph false a ∷ k ∷ get_or l 4 0 ∷ get_or l 5 0 ∷ []) (sym db.1)
    ∙ ap (λ k. 76 ∷ 95 ∷ digit_glyph false a ∷ digit_glyph false b ∷ k ∷ get_or l 5 0 ∷ []) (sym dc.1)
    ∙ ap (λ k. 76 ∷ 95 ∷ digit_glyph false a ∷ digit_glyph false b ∷ digit_glyph false c ∷ k ∷ []) (sym dd.1)
    ∙ ap (λ k. 76 ∷ 95 ∷ k) (sym (four-digits a b c d da.0 db.0 dc.0 dd.0))

-- two labels are the same just where their offsets are
pub labels-tell : (a b : ℕ) → a < 65536 → b < 65536 → same_bytes (label_of a) (label_of b) ≡ (b == a)
labels-tell a b fa fb = elim (cases_eq b a) [
  | inl e ↦ ap (λ n. same_bytes (label_of a) (label_of n)) e ∙ same_bytes-refl (label_of a) ∙ sym (eq-eqb b a e)
  | inr o ↦ name_at-differ (76 ∷ 95 ∷ []) a b fa fb (λ e. o (sym e)) ∙ sym (ne_eqb b a o)
]

-- the digits of a byte that is one
pub digit-range : (n : ℕ) → n < 16 → ((48 ≤ digit_glyph false n) × (digit_glyph false n ≤ 57)) ⊎ ((97 ≤ digit_glyph false n) × (digit_glyph false n ≤ 102))
digit-range n fits = elim (cases_lt n 10) [
  | inl low ↦ let is : digit_glyph false n ≡ 48 + n = cond-true (nat_lt n 10) (48 + n) (87 + n) (lt-ltb n 10 low) in inl (omega (arith, is), omega (arith, is, low))
  | inr high ↦ let is : digit_glyph false n ≡ 87 + n = cond-false (nat_lt n 10) (48 + n) (87 + n) (le-ltb n 10 high) in inr (omega (arith, is, high), omega (arith, is, fits))
]

-- the bytes of a label, from the third on
pub third : (l : List ℕ) (at : ℕ) → l ≡ label_of at → digit_glyph false (at / 4096 % 16) ≡ get_or l 2 0
third l at e = sym (ap (λ k. get_or k 2 0) e)

pub fourth : (l : List ℕ) (at : ℕ) → l ≡ label_of at → digit_glyph false (at / 256 % 16) ≡ get_or l 3 0
fourth l at e = sym (ap (λ k. get_or k 3 0) e)

pub fifth : (l : List ℕ) (at : ℕ) → l ≡ label_of at → digit_glyph false (at / 16 % 16) ≡ get_or l 4 0
fifth l at e = sym (ap (λ k. get_or k 4 0) e)

pub sixth : (l : List ℕ) (at : ℕ) → l ≡ label_of at → digit_glyph false (at % 16) ≡ get_or l 5 0
sixth l at e = sym (ap (λ k. get_or k 5 0) e)
