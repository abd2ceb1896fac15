-- What a sort of different values gives.
use Rattle.std.proofs.Common.{◌≡◌, ◌≢◌, ℕ, ◌<◌, nat_eq, Bool, true, false, List, get_or, map, AllPairs, IsPermutation, refl, sym, ◌∙◌, arith, eqb-true, eq-eqb}
use Rattle.std.specs.List.Sorted.{IsNonDecreasingBy}
use Rattle.std.specs.Cmp.{unsigned_Decides}
use Rattle.std.proofs.lemmas.Map.Keys.{IsDistinct-IsPermutation}
use Rattle.std.proofs.lemmas.Map.Made.{AllPairs-from_IsDistinct, IsDistinct-from_AllPairs}
use Rattle.std.proofs.lemmas.List.{length-map, get_or-map}
use Rattle.std.proofs.lemmas.List.Sorted.{IsPermutation-map}

same-turned : (x y : ℕ) → nat_eq x y ≡ nat_eq y x
same-turned x y = elim (nat_eq x y) as (λ b. nat_eq x y ≡ b → nat_eq x y ≡ nat_eq y x) [
  | true ↦ λ e. e ∙ sym (eq-eqb y x (sym (eqb-true x y e)))
  | false ↦ λ e. e ∙ sym (other e (nat_eq y x) refl)
] refl
  where
    other : nat_eq x y ≡ false → (b : Bool) → nat_eq y x ≡ b → nat_eq y x ≡ false
    other e false f = f
    other e true f = let clash = sym e ∙ eq-eqb x y (sym (eqb-true y x f)) in cc

pub distinct-permuted : (xs ys : List ℕ) → IsPermutation xs ys → AllPairs (λ x y. x ≢ y) xs → AllPairs (λ x y. x ≢ y) ys
distinct-permuted xs ys moved distinct =
    AllPairs-from_IsDistinct unsigned_Decides ys
    (IsDistinct-IsPermutation nat_eq same-turned xs ys moved (IsDistinct-from_AllPairs unsigned_Decides xs distinct))

-- by a number of each
pub ascending-by :
    {A : Type 0} (n : A → ℕ) (xs ys : List A) → IsPermutation xs ys → AllPairs (λ x y. x ≢ y) (map n xs)
    → IsNonDecreasingBy n ys → AllPairs (λ a b. n a < n b) ys
ascending-by n xs ys moved distinct up i j d less inside =
    let apart = distinct-permuted (map n xs) (map n ys) (IsPermutation-map n xs ys moved) distinct in
    let short = length-map ys n in
    let le = up i j d (omega (arith, less)) inside in
    let a = get_or-map n ys i d (n d) (omega (arith, less, inside)) in
    let b = get_or-map n ys j d (n d) inside in
    let ne : n (get_or ys i d) ≢ n (get_or ys j d) =
    λ same. apart i j (n d) less (omega (arith, short, inside)) (a ∙ same ∙ sym b) in
    omega (arith, le, ne)
