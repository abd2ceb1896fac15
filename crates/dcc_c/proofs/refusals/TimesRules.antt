-- Words of a list that stand there once, and words that stand in a list.
use native.Mathlib.Omega.{arith}
use Rattle.std.proofs.Common.{◌≡◌, suc, ◌≤◌, ◌<◌, Bool, true, false, ◌||◌, List, [], ◌∷◌, refl, sym, ap, ◌∙◌}
use Rattle.std.proofs.lemmas.Bool.{eq-eqb}
use Rattle.std.specs.Prelude.{not, if◌then◌else◌}
use Rattle.std.specs.List.{list_all}
use Rattle.dcc_c.specs.Token.{same_bytes}
use Rattle.dcc_c.specs.Tree.{Word}
use Rattle.dcc_c.specs.Grammar.{is_among}
use Rattle.dcc_c.specs.Rules.{all_differ}
use Rattle.dcc_c.proofs.NameLaws.{same_bytes-equal}
use Rattle.dcc_c.proofs.refusals.ExprRules.{and-both, or-left, or-right}
use Rattle.dcc_c.proofs.refusals.ListRules.{bytes-symmetric, not-true-false}
use Rattle.dcc_c.proofs.refusals.LabelRules.{times, SameWords}

-- a word that is not among others stands there no time, and one that is stands there
absent-times : (words : List Word) (word : Word) → is_among words word ≡ false → times word words ≡ 0
absent-times [] word e = refl
absent-times (x ∷ xs) word e =
    rw (bytes-symmetric x word ∙ or-left (same_bytes word x) (is_among xs word) e)
    (absent-times xs word (or-right (same_bytes word x) (is_among xs word) e))

present-times : (words : List Word) (word : Word) → is_among words word ≡ true → 0 < times word words
present-times [] word e = absurd cc
present-times (x ∷ xs) word e = elim (same_bytes word x) as (λ b. same_bytes word x ≡ b → b || is_among xs word ≡ true → 0 < (if same_bytes x word then suc (times word xs) else times word xs)) [
  | true ↦ λ here _. rw (bytes-symmetric x word ∙ here) (omega arith)
  | false ↦ λ other later. rw (bytes-symmetric x word ∙ other) (present-times xs word later)
] refl e

-- as many times, as much among them
pub among-same : (xs ys : List Word) → SameWords xs ys → (word : Word) → is_among xs word ≡ is_among ys word
among-same xs ys same word = elim (is_among xs word) as (λ a. is_among xs word ≡ a → a ≡ is_among ys word) [
  | true ↦ λ there. elim (is_among ys word) as (λ b. is_among ys word ≡ b → true ≡ b) [
    | true ↦ λ _. refl
    | false ↦ λ absent. absurd (omega (arith, present-times xs word there, same word, absent-times ys word absent))
  ] refl
  | false ↦ λ absent. elim (is_among ys word) as (λ b. is_among ys word ≡ b → false ≡ b) [
    | true ↦ λ there. absurd (omega (arith, present-times ys word there, same word, absent-times xs word absent))
    | false ↦ λ _. refl
  ] refl
] refl

-- no word stands twice
abbrev Once : List Word → Type 0
Once words = (word : Word) → times word words ≤ 1

differ-once : (words : List Word) → all_differ words ≡ true → Once words
differ-once [] e word = omega arith
differ-once (x ∷ xs) e word =
    let parts = and-both (not (is_among xs x)) (all_differ xs) e in
    elim (same_bytes x word) as (λ b. same_bytes x word ≡ b → (if b then suc (times word xs) else times word xs) ≤ 1) [
      | true ↦ λ here. let none = absent-times xs x (not-true-false (is_among xs x) parts.0) in
          let same : times word xs ≡ 0 = ap (λ w. times w xs) (sym (same_bytes-equal x word here)) ∙ none in omega (arith, same)
      | false ↦ λ _. differ-once xs parts.1 word
    ] refl

pub bytes-same : (word : Word) → same_bytes word word ≡ true
bytes-same [] = refl
bytes-same (x ∷ xs) = rw (eq-eqb x x refl) (bytes-same xs)

fewer : (x : Word) (xs : List Word) (word : Word) → times word xs ≤ times word (x ∷ xs)
fewer x xs word = elim (same_bytes x word) as (λ b. times word xs ≤ (if b then suc (times word xs) else times word xs)) [
  | true ↦ omega arith
  | false ↦ omega arith
]

once-differ : (words : List Word) → Once words → all_differ words ≡ true
once-differ [] once = refl
once-differ (x ∷ xs) once =
    let here : times x (x ∷ xs) ≡ suc (times x xs) = rw (bytes-same x) refl in
    let alone : is_among xs x ≡ false = elim (is_among xs x) as (λ b. is_among xs x ≡ b → b ≡ false) [
      | true ↦ λ there. absurd (omega (arith, here, once x, present-times xs x there))
      | false ↦ λ _. refl
    ] refl in
    rw alone (once-differ xs (λ word. omega (arith, fewer x xs word, once word)))

-- lists with the same words differ alike
pub differ-same : (xs ys : List Word) → SameWords xs ys → all_differ xs ≡ true → all_differ ys ≡ true
differ-same xs ys same e = once-differ ys (λ word. omega (arith, same word, differ-once xs e word))

pub all-same : (P Q : Word → Bool) → ((word : Word) → P word ≡ Q word) → (words : List Word) → list_all P words ≡ true → list_all Q words ≡ true
all-same P Q same [] e = refl
all-same P Q same (x ∷ xs) e =
    let parts = and-both (P x) (list_all P xs) e in rw (sym (same x) ∙ parts.0) (all-same P Q same xs parts.1)
