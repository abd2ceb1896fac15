-- Loops and the offsets that their labels name.
use Rattle.std.proofs.Common.{◌≡◌, ℕ, suc, ◌+◌, ◌<◌, Bool, true, false, cond, List, [], ◌∷◌, ◌++◌, Option, Some, None, take, length, get_or, inl, inr, refl, sym, ap, ◌∙◌, arith}
use Rattle.std.specs.Prelude.{◌==◌, ◌&&◌, not}
use Rattle.std.specs.List.{list_all, count_by}
use Rattle.std.proofs.lemmas.Bool.{cases_Bool, or_left, or_right, or_from, and_from}
use Rattle.std.proofs.lemmas.List.Folds.{list_all_more}
use Rattle.std.proofs.lemmas.List.Sums.{sum_by-append, count_by_more_yes, count_by_more_no}
use Rattle.dcc_c.specs.Tree.{Word, Stmt}
use Rattle.dcc_c.specs.Token.{same_bytes}
use Rattle.dcc_c.proofs.NameLaws.{same_bytes-refl}
use Rattle.dcc_flow.specs.Edges.{is_in}
use Rattle.dcc_flow.proofs.Members.{in_cases}
use Rattle.dcc_shape.specs.Spots.{is_the, is_loop}
use Rattle.dcc_shape.specs.Shape.{label_of, names_one, is_labelled, is_loop_at}
use Rattle.dcc_shape.proofs.LabelLaws.{labels-tell}

-- the label of one of the addresses names one of them
pub among : (test : ℕ → Bool) (ats : List ℕ) (at : ℕ) (word : Word) → word ≡ label_of at → test at ≡ true → is_in ats at ≡ true → names_one test ats (Some word) ≡ true
among test [] at word is passes h = h
among test (p ∷ ats) at word is passes h = elim (in_cases p at ats h) [
  | inl e ↦ or_left (same_bytes (label_of p) word && test p) (names_one test ats (Some word))
      (and_from (same_bytes (label_of p) word) (test p) (ap (same_bytes (label_of p)) (is ∙ ap label_of (sym e)) ∙ same_bytes-refl (label_of p)) (ap test e ∙ passes))
  | inr t ↦ or_right (same_bytes (label_of p) word && test p) (names_one test ats (Some word)) (among test ats at word is passes t)
]

-- one of the list is a number of 16 bits, where all are
pub fits-in : (ns : List ℕ) (n : ℕ) → ((i : ℕ) → get_or ns i 0 < 65536) → is_in ns n ≡ true → n < 65536
fits-in [] n fits h = absurd cc
fits-in (m ∷ ns) n fits h = elim (in_cases m n ns h) [
  | inl e ↦ let first : m < 65536 = fits 0 in omega (arith, e, first)
  | inr t ↦ fits-in ns n (λ i. fits (suc i)) t
]

module _ (stmt : Stmt) (label : Option Word) where
  pub loop-at : (at named : ℕ) → at < 65536 → named < 65536 → is_loop stmt ≡ true → label ≡ Some (label_of named) → is_loop_at at stmt label ≡ (named == at)
  loop-at at named fits named_fits loop is =
      ap (λ b. b && is_the (label_of at) label) loop ∙ ap (is_the (label_of at)) is ∙ labels-tell at named fits named_fits

  pub no-loop-at : (at : ℕ) → is_loop stmt ≡ false → is_loop_at at stmt label ≡ false
  no-loop-at at none = ap (λ b. b && is_the (label_of at) label) none

  pub loop-labelled : (heads : List ℕ) (named : ℕ) → label ≡ Some (label_of named) → is_in heads named ≡ true → is_labelled heads stmt label ≡ true
  loop-labelled heads named is known =
      or_right (not (is_loop stmt)) (names_one (λ at. true) heads label)
      (ap (names_one (λ at. true) heads) is ∙ among (λ at. true) heads named (label_of named) refl refl known)

  pub no-loop-labelled : (heads : List ℕ) → is_loop stmt ≡ false → is_labelled heads stmt label ≡ true
  no-loop-labelled heads none = or_left (not (is_loop stmt)) (names_one (λ at. true) heads label) (ap not none)

  -- a loop whose label is none of these
  pub loop-unlabelled : (heads : List ℕ) → is_loop stmt ≡ true → names_one (λ at. true) heads label ≡ false → is_labelled heads stmt label ≡ false
  loop-unlabelled heads loop none = or_from (not (is_loop stmt)) (names_one (λ at. true) heads label) (ap not loop) none

-- the label that names none of the addresses where there is none
pub no-name : (test : ℕ → Bool) (ats : List ℕ) → names_one test ats None ≡ false
no-name test [] = refl
no-name test (p ∷ ats) = no-name test ats

-- two tests of numbers that answer the same at the numbers of 16 bits
pub all-fit : (p q : ℕ → Bool) (ns : List ℕ) → ((i : ℕ) → get_or ns i 0 < 65536) → ((n : ℕ) → n < 65536 → p n ≡ q n) → list_all p ns ≡ list_all q ns
all-fit p q [] fits same = refl
all-fit p q (n ∷ ns) fits same =
    ap (λ a. a && list_all p ns) (same n (fits 0)) ∙ ap (λ b. q n && b) (all-fit p q ns (λ i. fits (suc i)) same)

module _ {X : Type 0} (test : X → Bool) (xs : List X) (i : ℕ) (x : X) (within : i < length xs) (is : x ≡ get_or xs i x) where
  pub all-more : list_all test (take i xs) ≡ true → test x ≡ true → list_all test (take (i + 1) xs) ≡ true
  all-more had more =
      list_all_more test xs i x within ∙ and_from (list_all test (take i xs)) (test (get_or xs i x)) had (ap test (sym is) ∙ more)

  pub count-more : count_by test (take (i + 1) xs) ≡ count_by test (take i xs) + cond (test x) 1 0
  count-more = elim (cases_Bool (test x)) [
    | inl passes ↦ count_by_more_yes test xs i x within (ap test (sym is) ∙ passes) ∙ ap (λ b. count_by test (take i xs) + cond b 1 0) (sym passes)
    | inr fails ↦ count_by_more_no test xs i x within (ap test (sym is) ∙ fails) ∙ let none : count_by test (take i xs) ≡ count_by test (take i xs) + 0 = omega arith in none ∙ ap (λ b. count_by test (take i xs) + cond b 1 0) (sym fails)
  ]

pub count-push : {X : Type 0} (test : X → Bool) (xs : List X) (x : X) → count_by test (xs ++ x ∷ []) ≡ count_by test xs + cond (test x) 1 0
count-push test xs x =
    let last : 0 + cond (test x) 1 0 ≡ cond (test x) 1 0 = omega arith in
    sum_by-append (λ y. cond (test y) 1 0) xs (x ∷ []) ∙ ap (λ n. count_by test xs + n) last
