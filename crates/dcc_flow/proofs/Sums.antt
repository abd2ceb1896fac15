-- Sums over the places below a number.
use Rattle.std.proofs.Common.{◌≡◌, ◌≢◌, ℕ, zero, suc, ◌+◌, ◌<◌, ◌≤◌, inl, inr, refl, sym, subst, arith}
use Rattle.std.proofs.lemmas.Bool.{cases_eq}

-- of all places below it
pub total : (ℕ → ℕ) → ℕ → ℕ
total f zero = 0
total f (suc n) = f n + total f n

pub total_none : (f : ℕ → ℕ) → total f 0 ≡ 0
unfolding total
total_none f = refl

pub total_suc : (f : ℕ → ℕ) (n : ℕ) → total f (suc n) ≡ f n + total f n
unfolding total
total_suc f n = refl

pub total_le : (f g : ℕ → ℕ) (n : ℕ) → ((i : ℕ) → i < n → f i ≤ g i) → total f n ≤ total g n
unfolding total
total_le f g zero h = omega arith
total_le f g (suc n) h =
    let here = h n (omega arith) in
    let rest = total_le f g n (λ i less. h i (omega arith)) in
    omega (arith, here, rest)

-- where one place has less by a number, and no other has more
pub total_less : (f g : ℕ → ℕ) (n k d : ℕ) → k < n → f k + d ≤ g k → ((i : ℕ) → i < n → i ≢ k → f i ≤ g i) → total f n + d ≤ total g n
unfolding total
total_less f g zero k d h less others = absurd (omega arith)
total_less f g (suc n) k d h less others = elim (cases_eq k n) [
  | inl e ↦
      let here = subst (λ j. f j + d ≤ g j) e less in
      let rest = total_le f g n (λ i below. others i (omega arith) (λ s. omega (arith, s, e))) in
      omega (arith, here, rest)
  | inr o ↦
      let here = others n (omega arith) (λ s. o (sym s)) in
      let rest = total_less f g n k d (omega arith) less (λ i below off. others i (omega arith) off) in
      omega (arith, here, rest)
]

pub total_same : (f g : ℕ → ℕ) (n : ℕ) → ((i : ℕ) → i < n → f i ≡ g i) → total f n ≡ total g n
unfolding total
total_same f g zero h = refl
total_same f g (suc n) h =
    let here = h n (omega arith) in
    let rest = total_same f g n (λ i less. h i (omega arith)) in
    omega (arith, here, rest)
