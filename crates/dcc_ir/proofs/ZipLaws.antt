-- Laws of two lists that are related place by place.
use Rattle.std.proofs.Common.{◌≡◌, ℕ, zero, suc, Bool, true, ◌&&◌, ◌||◌, List, [], ◌∷◌, ◌++◌, Some, refl, ap₂, subst, map, slice_get, flat_map}
use Rattle.std.specs.Prelude.{All}
use Rattle.std.specs.List.{AllZip, list_all, list_any}
use Rattle.std.proofs.lemmas.List.Elements.{All-nil, All-cons, All-head, All-tail}
use Rattle.dcc_ir.proofs.FitLaws.{both}

module _ {A B : Type 0} (R : A → B → Type 0) where
  pub all_zipped : (P : A → Type 0) (Q : B → Type 0) → ((x : A) (y : B) → R x y → P x → Q y) → (xs : List A) (ys : List B) → AllZip R xs ys → All P xs → All Q ys
  all_zipped P Q to [] [] h all = All-nil Q
  all_zipped P Q to [] (y ∷ ys) h all = absurd h
  all_zipped P Q to (x ∷ xs) [] h all = absurd h
  all_zipped P Q to (x ∷ xs) (y ∷ ys) h all = All-cons Q y ys (to x y h.0 (All-head P x xs all)) (all_zipped P Q to xs ys h.1 (All-tail P x xs all))

  pub map_zipped : {C : Type 0} (f : A → C) (f' : B → C) → ((x : A) (y : B) → R x y → f' y ≡ f x) → (xs : List A) (ys : List B) → AllZip R xs ys → map f' ys ≡ map f xs
  map_zipped f f' same [] [] h = refl
  map_zipped f f' same [] (y ∷ ys) h = absurd h
  map_zipped f f' same (x ∷ xs) [] h = absurd h
  map_zipped f f' same (x ∷ xs) (y ∷ ys) h = ap₂ (λ z zs. z ∷ zs) (same x y h.0) (map_zipped f f' same xs ys h.1)

  pub flat_zipped : {C : Type 0} (f : A → List C) (f' : B → List C) → ((x : A) (y : B) → R x y → f' y ≡ f x) → (xs : List A) (ys : List B) → AllZip R xs ys → flat_map f' ys ≡ flat_map f xs
  flat_zipped f f' same [] [] h = refl
  flat_zipped f f' same [] (y ∷ ys) h = absurd h
  flat_zipped f f' same (x ∷ xs) [] h = absurd h
  flat_zipped f f' same (x ∷ xs) (y ∷ ys) h = ap₂ (λ z zs. z ++ zs) (same x y h.0) (flat_zipped f f' same xs ys h.1)

  pub any_zipped : (f : A → Bool) (f' : B → Bool) → ((x : A) (y : B) → R x y → f' y ≡ f x) → (xs : List A) (ys : List B) → AllZip R xs ys → list_any f' ys ≡ list_any f xs
  any_zipped f f' same [] [] h = refl
  any_zipped f f' same [] (y ∷ ys) h = absurd h
  any_zipped f f' same (x ∷ xs) [] h = absurd h
  any_zipped f f' same (x ∷ xs) (y ∷ ys) h = ap₂ (λ z zs. z || zs) (same x y h.0) (any_zipped f f' same xs ys h.1)

  pub passes_zipped : (f : A → Bool) (f' : B → Bool) → ((x : A) (y : B) → R x y → f x ≡ true → f' y ≡ true) → (xs : List A) (ys : List B) → AllZip R xs ys → list_all f xs ≡ true → list_all f' ys ≡ true
  passes_zipped f f' to [] [] h all = refl
  passes_zipped f f' to [] (y ∷ ys) h all = absurd h
  passes_zipped f f' to (x ∷ xs) [] h all = absurd h
  passes_zipped f f' to (x ∷ xs) (y ∷ ys) h all =
      let parts = both (f x) (list_all f xs) all in
      ap₂ (λ a b. a && b) (to x y h.0 parts.0) (passes_zipped f f' to xs ys h.1 parts.1)

  pub weaker_zipped : (S : A → B → Type 0) → ((x : A) (y : B) → R x y → S x y) → (xs : List A) (ys : List B) → AllZip R xs ys → AllZip S xs ys
  weaker_zipped S to [] [] h = tt
  weaker_zipped S to [] (y ∷ ys) h = absurd h
  weaker_zipped S to (x ∷ xs) [] h = absurd h
  weaker_zipped S to (x ∷ xs) (y ∷ ys) h = (to x y h.0, weaker_zipped S to xs ys h.1)

  -- a place of the second list is one of the first
  pub zip_back : (xs : List A) (ys : List B) (k : ℕ) (y : B) → AllZip R xs ys → slice_get ys k ≡ Some y → (x : A) × (slice_get xs k ≡ Some x) × R x y
  zip_back [] [] k y h e = absurd (cc)
  zip_back [] (z ∷ ys) k y h e = absurd h
  zip_back (x ∷ xs) [] k y h e = absurd h
  zip_back (x ∷ xs) (z ∷ ys) zero y h e = let same : z ≡ y = cc in (x, refl, subst (R x) same h.0)
  zip_back (x ∷ xs) (z ∷ ys) (suc k) y h e = zip_back xs ys k y h.1 e
