-- Words of arguments by their numbers, and the offsets of their bytes.
use Rattle.std.proofs.Common.{◌≡◌, ◌≤◌, ◌<◌, ◌⊎◌, inl, inr, ℕ, zero, suc, ◌+◌, ◌*◌, Bool, true, false, List, [], ◌∷◌, filter, length, Contains, refl, sym, ap, ◌∙◌, arith}
use Rattle.std.specs.Prelude.{if◌then◌else◌}
use Rattle.std.specs.List.{range_with_len}
use Rattle.std.proofs.lemmas.Bool.{cases_eq}
use Rattle.dcc_prog.proofs.StackMarks.{head_or_rest, at_head, in_rest}

-- Numbers.

none-among : (x : ℕ) → ¬ Contains [] x
none-among x (k, inside, is) = omega (arith, inside)

pub in-range : (from count number : ℕ) → from ≤ number → number < from + count
    → Contains (range_with_len from count) number
in-range from zero number low high = absurd (omega (arith, low, high))
in-range from (suc count) number low high = elim (cases_eq from number) [
  | inl same ↦ at_head from number (range_with_len (from + 1) count) same
  | inr other ↦
      in_rest from number (range_with_len (from + 1) count)
      (in-range (from + 1) count number (omega (arith, low, other)) (omega (arith, high)))
]

pub range-tells : (from count number : ℕ) → Contains (range_with_len from count) number
    → (from ≤ number) × (number < from + count)
range-tells from zero number has = absurd (none-among number has)
range-tells from (suc count) number has = elim (head_or_rest from number (range_with_len (from + 1) count) has) [
  | inl same ↦ (omega (arith, same), omega (arith, same))
  | inr later ↦
      let rest = range-tells (from + 1) count number later in
      let low = rest.0 in let high = rest.1 in (omega (arith, low), omega (arith, high))
]

pub filtered-tells : (test : ℕ → Bool) (numbers : List ℕ) (number : ℕ) → Contains (filter test numbers) number
    → Contains numbers number × (test number ≡ true)
filtered-tells test [] number has = absurd (none-among number has)
filtered-tells test (first ∷ rest) number has =
    by (test first) refl has (λ more. filtered-tells test rest number more)
  where
    by : (b : Bool) → test first ≡ b
        → Contains (if b then first ∷ filter test rest else filter test rest) number
        → (Contains (filter test rest) number → Contains rest number × (test number ≡ true))
        → Contains (first ∷ rest) number × (test number ≡ true)
    by true passes has more = elim (head_or_rest first number (filter test rest) has) [
      | inl same ↦ (at_head first number rest same, sym (ap test same) ∙ passes)
      | inr later ↦ let both = more later in (in_rest first number rest both.0, both.1)
    ]
    by false fails has more = let both = more has in (in_rest first number rest both.0, both.1)

pub filtered-told : (test : ℕ → Bool) (numbers : List ℕ) (number : ℕ) → Contains numbers number → test number ≡ true
    → Contains (filter test numbers) number
filtered-told test [] number has passes = absurd (none-among number has)
filtered-told test (first ∷ rest) number has passes =
    by (test first) refl (head_or_rest first number rest has)
    (λ later. filtered-told test rest number later passes)
  where
    by : (b : Bool) → test first ≡ b → (first ≡ number) ⊎ Contains rest number
        → (Contains rest number → Contains (filter test rest) number)
        → Contains (if b then first ∷ filter test rest else filter test rest) number
    by true is (inl same) more = at_head first number (filter test rest) same
    by true is (inr later) more = in_rest first number (filter test rest) (more later)
    by false is (inl same) more = cc
    by false is (inr later) more = more later

-- Offsets.

-- the offsets of the bytes of argument words by their numbers, low byte first
abbrev pub word_offsets : ℕ → List ℕ → List ℕ
word_offsets base [] = []
word_offsets base (number ∷ numbers) =
    (base + 2 * number) ∷ (base + 2 * number + 1) ∷ word_offsets base numbers

-- the offset is one of the word's bytes
pub record IsOfWord (base number offset : ℕ) : Type 0 where
  pub from : base + 2 * number ≤ offset
  pub to : offset < base + 2 * number + 2

pub offset-told : (base : ℕ) (numbers : List ℕ) (number offset : ℕ) → Contains numbers number
    → IsOfWord base number offset
    → Contains (word_offsets base numbers) offset
offset-told base [] number offset has is = absurd (none-among number has)
offset-told base (first ∷ rest) number offset has is = elim (head_or_rest first number rest has) [
  | inl same ↦
      let low = is.from in
      let high = is.to in
      elim (cases_eq (base + 2 * first) offset) [
        | inl one ↦ at_head (base + 2 * first) offset ((base + 2 * first + 1) ∷ word_offsets base rest) one
        | inr other ↦
            in_rest (base + 2 * first) offset ((base + 2 * first + 1) ∷ word_offsets base rest)
            (at_head (base + 2 * first + 1) offset (word_offsets base rest)
            (omega (arith, same, low, high, other)))
      ]
  | inr later ↦
      in_rest (base + 2 * first) offset ((base + 2 * first + 1) ∷ word_offsets base rest)
      (in_rest (base + 2 * first + 1) offset (word_offsets base rest)
      (offset-told base rest number offset later is))
]

pub offset-tells : (base : ℕ) (numbers : List ℕ) (offset : ℕ) → Contains (word_offsets base numbers) offset
    → (number : ℕ) × Contains numbers number × IsOfWord base number offset
offset-tells base [] offset has = absurd (none-among offset has)
offset-tells base (first ∷ rest) offset has =
    elim (head_or_rest (base + 2 * first) offset ((base + 2 * first + 1) ∷ word_offsets base rest) has) [
      | inl same ↦ (
        first,
        at_head first first rest refl,
        record { from = omega (arith, same); to = omega (arith, same) },
      )
      | inr more ↦ elim (head_or_rest (base + 2 * first + 1) offset (word_offsets base rest) more) [
        | inl same ↦ (
          first,
          at_head first first rest refl,
          record { from = omega (arith, same); to = omega (arith, same) },
        )
        | inr later ↦
            let found = offset-tells base rest offset later in (found.0, in_rest first found.0 rest found.1, found.2)
      ]
    ]

pub two-each : (base : ℕ) (numbers : List ℕ) → length (word_offsets base numbers) ≡ 2 * length numbers
two-each base [] = refl
two-each base (number ∷ numbers) = let rest = two-each base numbers in omega (arith, rest)
