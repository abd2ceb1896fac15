-- Which of two encodings is preferred.
use Rattle.std.proofs.Common.{◌≡◌, ℕ, ◌<◌, ◌⊎◌, ◌==◌, Bool, true, false, ◌&&◌, ◌||◌, nat_lt, nat_cmp, List, length, Ordering, Less, Equal, Greater, is_lt, is_eq, refl, sym, ap, ◌∙◌, inl, inr, arith}
use Rattle.std.specs.Cmp.Lexicographic.{slice_cmp, nat_list_cmp_total, texts_ties, bytes_decides}
use Rattle.std.proofs.lemmas.Bool.{cases_lt}
use Rattle.std.proofs.lemmas.Bool.Decides.{nat_tests}
use Rattle.dcc_encode.specs.Encoding.{is_preferred}
use Rattle.dcc_encode.specs.Laws.{StandardEncodingIsUnique}

-- the order of lists of bytes
abbrev order : List ℕ → List ℕ → Ordering
order xs ys = slice_cmp nat_cmp xs ys

-- shorter, or as long and greater
abbrev IsBetter : List ℕ → List ℕ → Type 0
IsBetter xs ys = (length xs < length ys) ⊎ ((length xs ≡ length ys) × (order ys xs ≡ Less))

is_less : (o : Ordering) → is_lt o ≡ true → o ≡ Less
is_less Less h = refl
is_less Equal h = cc
is_less Greater h = cc

test_cases : (a b c : Bool) → a || (b && c) ≡ true → (a ≡ true) ⊎ ((b ≡ true) × (c ≡ true))
test_cases true b c h = inl refl
test_cases false true c h = inr (refl, h)
test_cases false false c h = inr (h, cc)

lt_of_test : (a b : ℕ) → nat_lt a b ≡ true → a < b
lt_of_test a b h = grind (arith, nat_tests)

eq_of_test : (a b : ℕ) → a == b ≡ true → a ≡ b
eq_of_test a b h = grind (arith, nat_tests)

test_of_lt : (a b : ℕ) → a < b → nat_lt a b ≡ true
test_of_lt a b h = grind (arith, nat_tests)

test_of_eq : (a b : ℕ) → a ≡ b → a == b ≡ true
test_of_eq a b h = grind (arith, nat_tests)

pub better : (xs ys : List ℕ) → is_preferred xs ys ≡ true → IsBetter xs ys
better xs ys h = elim (test_cases (nat_lt (length xs) (length ys)) (length xs == length ys) (is_lt (order ys xs)) h) [
  | inl shorter ↦ inl (lt_of_test (length xs) (length ys) shorter)
  | inr greater ↦ inr (eq_of_test (length xs) (length ys) greater.0, is_less (order ys xs) greater.1)
]

or_right : (a : Bool) → a || true ≡ true
or_right true = refl
or_right false = refl

pub preferred : (xs ys : List ℕ) → IsBetter xs ys → is_preferred xs ys ≡ true
preferred xs ys h = elim h [
  | inl shorter ↦ rw (test_of_lt (length xs) (length ys) shorter) refl
  | inr greater ↦ rw (test_of_eq (length xs) (length ys) greater.0, greater.1) (or_right (nat_lt (length xs) (length ys)))
]

flip : (xs ys : List ℕ) → order xs ys ≡ Less → order ys xs ≡ Greater
flip xs ys h = let back = nat_list_cmp_total.antisymm ys xs in rw h at back

-- of two encodings one at most is preferred to the other
pub preferred-apart : (xs ys : List ℕ) → IsBetter xs ys → IsBetter ys xs → ⊥
preferred-apart xs ys h k = elim h [
  | inl shorter ↦ elim k [
    | inl other ↦ omega (arith, shorter, other)
    | inr greater ↦ omega (arith, shorter, greater.0)
  ]
  | inr greater ↦ elim k [
    | inl other ↦ omega (arith, other, greater.0)
    | inr other ↦ let back = flip ys xs greater.1 in let e : order xs ys ≡ Less = other.1 in cc
  ]
]

better-trans : (xs ys zs : List ℕ) → IsBetter xs ys → IsBetter ys zs → IsBetter xs zs
better-trans xs ys zs h k = elim h [
  | inl shorter ↦ elim k [
    | inl other ↦ inl (omega (arith, shorter, other))
    | inr other ↦ inl (omega (arith, shorter, other.0))
  ]
  | inr greater ↦ elim k [
    | inl other ↦ inl (omega (arith, other, greater.0))
    | inr other ↦ inr (greater.0 ∙ other.0, nat_list_cmp_total.trans zs ys xs other.1 greater.1)
  ]
]

pub preferred-trans : (xs ys zs : List ℕ) → is_preferred xs ys ≡ true → is_preferred ys zs ≡ true → is_preferred xs zs ≡ true
preferred-trans xs ys zs h k = preferred xs zs (better-trans xs ys zs (better xs ys h) (better ys zs k))

tied : (xs ys : List ℕ) → order xs ys ≡ Equal → xs ≡ ys
tied xs ys e = (bytes_decides xs ys).0 (texts_ties xs ys ∙ ap is_eq e)

-- of two lists that are not one, one is preferred
pub preferred-total : (xs ys : List ℕ) → is_preferred xs ys ≡ false → (xs ≡ ys) ⊎ (is_preferred ys xs ≡ true)
preferred-total xs ys h =
    let not_better : IsBetter xs ys → ⊥ = λ b. let t = preferred xs ys b in cc in
    let as_long : length xs ≡ length ys → (xs ≡ ys) ⊎ (is_preferred ys xs ≡ true) = λ same.
    let P : Ordering → Type 0 = λ o. order xs ys ≡ o → (xs ≡ ys) ⊎ (is_preferred ys xs ≡ true) in
    let cases : (o : Ordering) → P o = λ o. elim o as P [
      | Less ↦ λ e. inr (preferred ys xs (inr (sym same, e)))
      | Equal ↦ λ e. inl (tied xs ys e)
      | Greater ↦ λ e.
          let back = nat_list_cmp_total.antisymm ys xs in
          let less = rw e at back in
          absurd (not_better (inr (same, less)))
    ] in
    cases (order xs ys) refl in
    elim (cases_lt (length xs) (length ys)) [
      | inl shorter ↦ absurd (not_better (inl shorter))
      | inr rest ↦ elim (cases_lt (length ys) (length xs)) [
        | inl longer ↦ inr (preferred ys xs (inl longer))
        | inr other ↦ as_long (omega (arith, rest, other))
      ]
    ]

pub standard_is_unique : StandardEncodingIsUnique
standard_is_unique cpu at op bytes others one two = elim (one.preferred others two.encoding) [
  | inl same ↦ sym same
  | inr better_one ↦ elim (two.preferred bytes one.encoding) [
    | inl same ↦ same
    | inr worse ↦ absurd (preferred-apart bytes others (better bytes others better_one) (better others bytes worse))
  ]
]
