-- Lists in which no member repeats an earlier one.
use Rattle.std.proofs.Common.{◌≡◌, ℕ, Bool, true, false, ◌&&◌, ◌||◌, ◌==◌, List, [], ◌∷◌, map, refl, sym, ap, ◌∙◌}
use Rattle.std.proofs.Math.Bool.{and-false}
use Rattle.std.proofs.lemmas.Bool.{eq-eqb, eqb-true}
use Rattle.std.specs.Prelude.{not}
use Rattle.std.specs.List.{list_any, list_all}
use Rattle.dcc_c.specs.Token.{same_bytes}
use Rattle.dcc_c.specs.Tree.{Word}
use Rattle.dcc_c.specs.Rules.{all_differ, differ}
use Rattle.dcc_c.specs.Grammar.{is_among}
use Rattle.dcc_c.specs.Kinds.{of_name, offence, only_if}
use Rattle.dcc_c.specs.Partial.{WordAt, NumberAt}
use Rattle.dcc_c.specs.Offences.{repeated, case_offences}
use Rattle.dcc_c.proofs.refusals.ExprRules.{none-both, none-only, both-empty, and-both}

pub not-true-false : (b : Bool) → not b ≡ true → b ≡ false
not-true-false true e = absurd cc
not-true-false false e = refl

equal-symmetric : (m n : ℕ) → (m == n) ≡ (n == m)
equal-symmetric m n = elim (m == n) as (λ b. (m == n) ≡ b → b ≡ (n == m)) [
  | true ↦ λ e. sym (eq-eqb n m (sym (eqb-true m n e)))
  | false ↦ λ e. elim (n == m) as (λ c. (n == m) ≡ c → false ≡ c) [
    | false ↦ λ _. refl
    | true ↦ λ f. sym e ∙ eq-eqb m n (sym (eqb-true n m f))
  ] refl
] refl

module _ {A : Type 0} (same : A → A → Bool) (symmetric : (a b : A) → same a b ≡ same b a) where
  -- no member is in the list before, and none repeats an earlier one
  abbrev pub fresh : List A → List A → Bool
  fresh known [] = true
  fresh known (x ∷ xs) = not (list_any (same x) known) && fresh (x ∷ known) xs

  -- no member stands again after it
  abbrev pub apart : List A → Bool
  apart [] = true
  apart (x ∷ xs) = not (list_any (same x) xs) && apart xs

  abbrev pub none-of : List A → List A → Bool
  none-of known xs = list_all (λ x. not (list_any (same x) known)) xs

  and-swap : (a b c d : Bool) → a && ((not b && c) && d) ≡ (a && c) && (not b && d)
  and-swap true true c d = sym (and-false c)
  and-swap true false c d = refl
  and-swap false b c d = refl

  not-or : (a b : Bool) → not (a || b) ≡ not a && not b
  not-or true b = refl
  not-or false b = refl

  and-four : (a b c d : Bool) → (a && b) && (c && d) ≡ (a && c) && (b && d)
  and-four true true c d = refl
  and-four true false c d = sym (and-false c)
  and-four false b c d = refl

  -- one more known member
  none-more : (x : A) (known xs : List A) → none-of (x ∷ known) xs ≡ not (list_any (same x) xs) && none-of known xs
  none-more x known [] = refl
  none-more x known (y ∷ ys) =
      rw (none-more x known ys) (rw (symmetric y x) (rw (not-or (same x y) (list_any (same y) known)) (rw (not-or (same x y) (list_any (same x) ys))
      (and-four (not (same x y)) (not (list_any (same y) known)) (not (list_any (same x) ys)) (none-of known ys)))))

  pub fresh-is : (known xs : List A) → fresh known xs ≡ none-of known xs && apart xs
  fresh-is known [] = refl
  fresh-is known (x ∷ xs) =
      ap (λ b. not (list_any (same x) known) && b) (fresh-is (x ∷ known) xs)
      ∙ ap (λ b. not (list_any (same x) known) && (b && apart xs)) (none-more x known xs)
      ∙ and-swap (not (list_any (same x) known)) (list_any (same x) xs) (none-of known xs) (apart xs)

-- Words.

pub bytes-symmetric : (xs ys : Word) → same_bytes xs ys ≡ same_bytes ys xs
bytes-symmetric [] [] = refl
bytes-symmetric [] (y ∷ ys) = refl
bytes-symmetric (x ∷ xs) [] = refl
bytes-symmetric (x ∷ xs) (y ∷ ys) = rw (equal-symmetric x y) (rw (bytes-symmetric xs ys) refl)

differ-apart : (words : List Word) → all_differ words ≡ apart same_bytes bytes-symmetric words
differ-apart [] = refl
differ-apart (word ∷ words) = ap (λ b. not (is_among words word) && b) (differ-apart words)

repeated-fresh : (known : List Word) (names : List WordAt) → repeated known names ≡ [] → fresh same_bytes bytes-symmetric known (map (λ n. n.word) names) ≡ true
repeated-fresh known [] none = refl
repeated-fresh known (n ∷ names) none =
    let both = none-both (only_if (is_among known n.word) (offence of_name n.at)) (repeated (n.word ∷ known) names) none in
    rw (none-only (is_among known n.word) (offence of_name n.at) both.0) (repeated-fresh (n.word ∷ known) names both.1)

fresh-repeated : (known : List Word) (names : List WordAt) → fresh same_bytes bytes-symmetric known (map (λ n. n.word) names) ≡ true → repeated known names ≡ []
fresh-repeated known [] e = refl
fresh-repeated known (n ∷ names) e =
    let parts = and-both (not (is_among known n.word)) (fresh same_bytes bytes-symmetric (n.word ∷ known) (map (λ n. n.word) names)) e in
    both-empty (ap (λ b. only_if b (offence of_name n.at)) (not-true-false (is_among known n.word) parts.0)) (fresh-repeated (n.word ∷ known) names parts.1)

-- none of the names is among the words
abbrev pub none_among : List Word → List Word → Bool
none_among known words = list_all (λ word. not (is_among known word)) words

-- names that repeat nothing, neither words before nor one another
pub repeated-apart : (known : List Word) (names : List WordAt) → repeated known names ≡ [] →
    (none_among known (map (λ n. n.word) names) ≡ true) × (all_differ (map (λ n. n.word) names) ≡ true)
repeated-apart known names none =
    let words = map (λ n. n.word) names in
    let parts = and-both (none_among known words) (apart same_bytes bytes-symmetric words)
    (sym (fresh-is same_bytes bytes-symmetric known words) ∙ repeated-fresh known names none) in
    (parts.0, differ-apart words ∙ parts.1)

pub apart-repeated : (known : List Word) (names : List WordAt) → none_among known (map (λ n. n.word) names) ≡ true →
    all_differ (map (λ n. n.word) names) ≡ true → repeated known names ≡ []
apart-repeated known names none differ_all =
    let words = map (λ n. n.word) names in
    fresh-repeated known names (fresh-is same_bytes bytes-symmetric known words
    ∙ ap (λ b. b && apart same_bytes bytes-symmetric words) none ∙ sym (differ-apart words) ∙ differ_all)

-- Numbers.

same-number : ℕ → ℕ → Bool
same-number n m = m == n

number-symmetric : (n m : ℕ) → same-number n m ≡ same-number m n
unfolding same-number
number-symmetric n m = equal-symmetric m n

numbers-apart : (ns : List ℕ) → differ ns ≡ apart same-number number-symmetric ns
unfolding same-number
numbers-apart [] = refl
numbers-apart (n ∷ ns) = ap (λ b. not (list_any (λ m. m == n) ns) && b) (numbers-apart ns)

cases-fresh : (known : List ℕ) (numbers : List NumberAt) → case_offences known numbers ≡ [] → fresh same-number number-symmetric known (map (λ n. n.value) numbers) ≡ true
unfolding same-number
cases-fresh known [] none = refl
cases-fresh known (n ∷ numbers) none =
    let both = none-both (only_if (list_any (λ m. m == n.value) known) (offence of_name n.at)) (case_offences (n.value ∷ known) numbers) none in
    rw (none-only (list_any (λ m. m == n.value) known) (offence of_name n.at) both.0) (cases-fresh (n.value ∷ known) numbers both.1)

fresh-cases : (known : List ℕ) (numbers : List NumberAt) → fresh same-number number-symmetric known (map (λ n. n.value) numbers) ≡ true → case_offences known numbers ≡ []
unfolding same-number
fresh-cases known [] e = refl
fresh-cases known (n ∷ numbers) e =
    let parts = and-both (not (list_any (λ m. m == n.value) known)) (fresh same-number number-symmetric (n.value ∷ known) (map (λ n. n.value) numbers)) e in
    both-empty (ap (λ b. only_if b (offence of_name n.at)) (not-true-false (list_any (λ m. m == n.value) known) parts.0)) (fresh-cases (n.value ∷ known) numbers parts.1)

none-known : (ns : List ℕ) → none-of same-number number-symmetric [] ns ≡ true
none-known [] = refl
none-known (n ∷ ns) = none-known ns

pub cases-differ : (numbers : List NumberAt) → case_offences [] numbers ≡ [] → differ (map (λ n. n.value) numbers) ≡ true
cases-differ numbers none =
    let ns = map (λ n. n.value) numbers in
    numbers-apart ns ∙ ap (λ b. b && apart same-number number-symmetric ns) (sym (none-known ns))
    ∙ sym (fresh-is same-number number-symmetric [] ns) ∙ cases-fresh [] numbers none

pub differ-cases : (numbers : List NumberAt) → differ (map (λ n. n.value) numbers) ≡ true → case_offences [] numbers ≡ []
differ-cases numbers e =
    let ns = map (λ n. n.value) numbers in
    fresh-cases [] numbers (fresh-is same-number number-symmetric [] ns ∙ ap (λ b. b && apart same-number number-symmetric ns) (none-known ns)
    ∙ sym (numbers-apart ns) ∙ e)
