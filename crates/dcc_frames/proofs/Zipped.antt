-- Two lists whose elements are related one by one.
use Rattle.std.proofs.Common.{◌≡◌, ℕ, zero, suc, ◌<◌, List, [], ◌∷◌, ◌++◌, length, get_or, refl, sym, ap, subst, arith}
use Rattle.std.specs.List.{AllZip}

module _ {A B : Type 0} (R : A → B → Type 0) where
  pub zipped-at :
      (xs : List A) (ys : List B) (i : ℕ) (d : A) (e : B) → AllZip R xs ys → i < length xs
      → R (get_or xs i d) (get_or ys i e)
  zipped-at [] ys i d e all inside = absurd (omega (arith, inside))
  zipped-at (x ∷ xs) [] i d e all inside = absurd all
  zipped-at (x ∷ xs) (y ∷ ys) zero d e all inside = all.0
  zipped-at (x ∷ xs) (y ∷ ys) (suc i) d e all inside = zipped-at xs ys i d e all.1 (omega (arith, inside))

  pub zipped-push :
      (xs : List A) (ys : List B) (x : A) (y : B) → AllZip R xs ys → R x y → AllZip R (xs ++ x ∷ []) (ys ++ y ∷ [])
  zipped-push [] [] x y all one = (one, tt)
  zipped-push [] (b ∷ ys) x y all one = absurd all
  zipped-push (a ∷ xs) [] x y all one = absurd all
  zipped-push (a ∷ xs) (b ∷ ys) x y all one = (all.0, zipped-push xs ys x y all.1 one)

  pub zipped-length : (xs : List A) (ys : List B) → AllZip R xs ys → length xs ≡ length ys
  zipped-length [] [] all = refl
  zipped-length [] (y ∷ ys) all = absurd all
  zipped-length (x ∷ xs) [] all = absurd all
  zipped-length (x ∷ xs) (y ∷ ys) all = ap suc (zipped-length xs ys all.1)

  pub zipped-read :
      (xs : List A) (ys : List B) (i : ℕ) (x : A) (y : B) → AllZip R xs ys → i < length xs → x ≡ get_or xs i x
      → y ≡ get_or ys i y → R x y
  zipped-read xs ys i x y all inside first second =
      subst (λ b. R x b) (sym second) (subst (λ a. R a (get_or ys i y)) (sym first) (zipped-at xs ys i x y all inside))
