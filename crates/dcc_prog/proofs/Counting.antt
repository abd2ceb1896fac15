-- Of different values there are no more than of those among which they all are.
use Rattle.std.proofs.Common.{◌≡◌, ◌≢◌, ◌⊎◌, inl, inr, ℕ, ◌≤◌, ◌<◌, List, [], ◌∷◌, length, get_or, AllPairs, Contains, sym, ap, ◌∙◌, arith}
use Rattle.std.proofs.lemmas.Bool.{cases_lt}
use Rattle.std.proofs.lemmas.List.{get_or_default}
use Rattle.std.proofs.lemmas.List.Elements.{All-contains, Contains-get_or}
use Rattle.indexmap.proofs.IndexTableLemmas.Probe.{pigeonhole}
use Rattle.dcc_prog.specs.Limit.{HasMany}

module _ {A : Type 0} (values others : List A) (d : A) (distinct : AllPairs (λ x y. x ≢ y) values)
    (among : (x : A) → Contains values x → Contains others x) where
  there : (i : ℕ) → i < length values → Contains others (get_or values i d)
  there i inside = among (get_or values i d) (Contains-get_or values i d inside)

  place-by : (i : ℕ) → (i < length values) ⊎ (length values ≤ i) → ℕ
  place-by i (inl inside) = (there i inside).0
  place-by i (inr past) = 0

  place-of : ℕ → ℕ
  place-of i = place-by i (cases_lt i (length values))

  by-some :
      (i : ℕ) (c : (i < length values) ⊎ (length values ≤ i)) → i < length values → (place-by i c < length others)
      × (get_or others (place-by i c) d ≡ get_or values i d)
  unfolding place-by
  by-some i (inl inside) less =
      let t = there i inside in
      (t.1, get_or_default others t.0 d (get_or values i d) t.1 ∙ t.2)
  by-some i (inr past) less = absurd (omega arith)

  at-place :
      (i : ℕ) → i < length values → (place-of i < length others) × (get_or others (place-of i) d ≡ get_or values i d)
  unfolding place-of
  at-place i less = by-some i (cases_lt i (length values)) less

  one-to-one : (i j : ℕ) → i < length values → j < length values → place-of i ≡ place-of j → i ≡ j
  one-to-one i j a b same =
      let first = at-place i a in
      let second = at-place j b in
      let value : get_or values i d ≡ get_or values j d = sym first.1 ∙ ap (λ k. get_or others k d) same ∙ second.1 in
      elim (cases_lt i j) [
        | inl less ↦ absurd (distinct i j d less b value)
        | inr ge ↦ elim (cases_lt j i) [
          | inl more ↦ absurd (distinct j i d more a (sym value))
          | inr le ↦ omega arith
        ]
      ]

  no-more-from : length values ≤ length others
  no-more-from = pigeonhole (length values) (length others) place-of (λ i less. (at-place i less).0) one-to-one

pub no-more :
    {A : Type 0} (values others : List A) → AllPairs (λ x y. x ≢ y) values
    → ((x : A) → Contains values x → Contains others x) → length values ≤ length others
no-more [] others distinct among = omega arith
no-more (x ∷ xs) others distinct among = no-more-from (x ∷ xs) others x distinct among

-- there are at most as many
pub few :
    {A : Type 0} (P : A → Type 0) (others : List A) (count : ℕ) → ((x : A) → P x → Contains others x)
    → HasMany P count → count ≤ length others
few {A} P others count among many =
    let le = no-more many.values others many.distinct (λ x c. among x (value-of x c)) in
    omega (arith, le, many.count_is)
  where
    value-of : (x : A) → Contains many.values x → P x
    value-of x c = All-contains P many.values x many.hold c
