-- What stays of a list, and what holds of it.
use Rattle.std.proofs.Common.{◌≡◌, ℕ, suc, Bool, true, false, cond, ◌&&◌, List, [], ◌∷◌, refl, ap, ap₂, map}
use Rattle.std.specs.List.{list_all}
use Rattle.dcc_ir.specs.Trimmed.{kept}
use Rattle.dcc_ir.proofs.FitLaws.{both}

-- the places after the first
abbrev pub later : (ℕ → Bool) → ℕ → Bool
later stays k = stays (suc k)

module _ {A : Type 0} where
  pub map-kept : {B : Type 0} (f : A → B) (stays : ℕ → Bool) (xs : List A) → map f (kept stays xs) ≡ kept stays (map f xs)
  map-kept f stays [] = refl
  map-kept f stays (x ∷ xs) = go (stays 0) (map-kept f (later stays) xs)
    where
      go : (b : Bool) → map f (kept (later stays) xs) ≡ kept (later stays) (map f xs) → map f (cond b (x ∷ kept (later stays) xs) (kept (later stays) xs)) ≡ cond b (f x ∷ kept (later stays) (map f xs)) (kept (later stays) (map f xs))
      go true rest = ap (λ l. f x ∷ l) rest
      go false rest = rest

  pub kept-passes : (f : A → Bool) (stays : ℕ → Bool) (xs : List A) → list_all f xs ≡ true → list_all f (kept stays xs) ≡ true
  kept-passes f stays [] h = refl
  kept-passes f stays (x ∷ xs) h = let parts = both (f x) (list_all f xs) h in go (stays 0) parts.0 (kept-passes f (later stays) xs parts.1)
    where
      go : (b : Bool) → f x ≡ true → list_all f (kept (later stays) xs) ≡ true → list_all f (cond b (x ∷ kept (later stays) xs) (kept (later stays) xs)) ≡ true
      go true head rest = ap₂ (λ a b. a && b) head rest
      go false head rest = rest
