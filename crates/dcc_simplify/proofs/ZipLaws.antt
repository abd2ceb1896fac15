-- Laws of lists that are related place by place.
use Rattle.std.proofs.Common.{◌≡◌, ℕ, zero, suc, Bool, true, ◌&&◌, List, [], ◌∷◌, ◌++◌, flat_map, map, refl, sym, subst, slice_get, Some}
use Rattle.std.specs.List.{AllZip, list_all}
use Rattle.std.proofs.lemmas.List.{map-append}
use Rattle.std.proofs.lemmas.List.Elements.{AllZip-push}
use Rattle.dcc_ir.proofs.FitLaws.{both}
use Rattle.dcc_rules.proofs.AmongLaws.{both_hold}

-- What is related, and passes a test, is related as told to what passes another: so it is element by element.
pub zip-passes :
    {A B : Type 0} (R S : A → B → Type 0) (f : A → Bool) (f' : B → Bool)
    → ((x : A) (y : B) → R x y → f x ≡ true → S x y × (f' y ≡ true)) → (xs : List A) (ys : List B) → AllZip R xs ys
    → list_all f xs ≡ true → AllZip S xs ys × (list_all f' ys ≡ true)
zip-passes R S f f' to [] [] h all = (tt, refl)
zip-passes R S f f' to [] (y ∷ ys) h all = absurd h
zip-passes R S f f' to (x ∷ xs) [] h all = absurd h
zip-passes R S f f' to (x ∷ xs) (y ∷ ys) h all =
    let parts = both (f x) (list_all f xs) all in
    let one = to x y h.0 parts.0 in
    let more = zip-passes R S f f' to xs ys h.1 parts.1 in
    ((one.0, more.0), both_hold (f' y) (list_all f' ys) one.1 more.1)

-- lists one after another
pub zip-append :
    {A B : Type 0} (R : A → B → Type 0) (xs xs' : List A) (ys ys' : List B) → AllZip R xs ys → AllZip R xs' ys'
    → AllZip R (xs ++ xs') (ys ++ ys')
zip-append R [] xs' [] ys' h k = k
zip-append R [] xs' (y ∷ ys) ys' h k = absurd h
zip-append R (x ∷ xs) xs' [] ys' h k = absurd h
zip-append R (x ∷ xs) xs' (y ∷ ys) ys' h k = (h.0, zip-append R xs xs' ys ys' h.1 k)

-- what related elements give
pub zip-flat :
    {A B C D : Type 0} (R : A → B → Type 0) (S : C → D → Type 0) (f : A → List C) (f' : B → List D)
    → ((x : A) (y : B) → R x y → AllZip S (f x) (f' y)) → (xs : List A) (ys : List B) → AllZip R xs ys
    → AllZip S (flat_map f xs) (flat_map f' ys)
zip-flat R S f f' to [] [] h = tt
zip-flat R S f f' to [] (y ∷ ys) h = absurd h
zip-flat R S f f' to (x ∷ xs) [] h = absurd h
zip-flat R S f f' to (x ∷ xs) (y ∷ ys) h =
    zip-append S (f x) (flat_map f xs) (f' y) (flat_map f' ys) (to x y h.0) (zip-flat R S f f' to xs ys h.1)

-- a place of the first list is one of the second
pub zip-at :
    {A B : Type 0} (R : A → B → Type 0) (xs : List A) (ys : List B) (k : ℕ) (x : A) (y : B) → AllZip R xs ys
    → slice_get xs k ≡ Some x → slice_get ys k ≡ Some y → R x y
zip-at R [] [] k x y h e f = absurd (cc)
zip-at R [] (w ∷ ys) k x y h e f = absurd h
zip-at R (z ∷ xs) [] k x y h e f = absurd h
zip-at R (z ∷ xs) (w ∷ ys) zero x y h e f =
    let same : z ≡ x = cc in
    let same' : w ≡ y = cc in
    subst (λ a. R a y) same (subst (R z) same' h.0)
zip-at R (z ∷ xs) (w ∷ ys) (suc k) x y h e f = zip-at R xs ys k x y h.1 e f

-- one more of each list
pub zip-pushed :
    {A B : Type 0} (f : A → B) (R : B → B → Type 0) (xs ys : List A) (x y : A) (more : List A) → more ≡ ys ++ y ∷ []
    → AllZip R (map f xs) (map f ys) → R (f x) (f y) → AllZip R (map f (xs ++ x ∷ [])) (map f more)
zip-pushed f R xs ys x y more made zipped is =
    subst (λ zs. AllZip R (map f (xs ++ x ∷ [])) (map f zs)) (sym made)
    (rw (map-append f xs (x ∷ []), map-append f ys (y ∷ []))
    (AllZip-push R (map f xs) (map f ys) (f x) (f y) zipped is))
