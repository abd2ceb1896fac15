-- Lists whose elements all stand in another list.
use Rattle.std.proofs.Common.{◌≡◌, ℕ, Bool, true, ◌&&◌, ◌||◌, inl, inr, List, [], ◌∷◌, ◌++◌, refl, sym, ap, ◌∙◌, subst, true≢false, eqb-true, eq-eqb}
use Rattle.std.specs.Prelude.{◌==◌}
use Rattle.std.specs.List.{list_any, list_all}
use Rattle.std.proofs.lemmas.List.Folds.{list_all-append, list_any-append}
use Rattle.dcc_ir.proofs.PathLaws.{decided, or_false}
use Rattle.dcc_ir.proofs.FitLaws.{both}
use Rattle.dcc_ir.proofs.GraphLaws.{or_there}

pub both_hold : (a b : Bool) → a ≡ true → b ≡ true → (a && b) ≡ true
both_hold a b e f = ap (λ c. c && b) e ∙ f

pub or_first : (a b : Bool) → a ≡ true → (a || b) ≡ true
or_first a b e = ap (λ c. c || b) e

pub all_mono : {A : Type 0} (p q : A → Bool) → ((x : A) → p x ≡ true → q x ≡ true) → (xs : List A) → list_all p xs ≡ true → list_all q xs ≡ true
all_mono p q more [] e = refl
all_mono p q more (x ∷ xs) e =
    let parts = both (p x) (list_all p xs) e in
    both_hold (q x) (list_all q xs) (more x parts.0) (all_mono p q more xs parts.1)

module _ {A : Type 0} (same : A → A → Bool) where
  -- each element of the second list stands in the first
  abbrev pub all_among : List A → List A → Bool
  all_among xs ys = list_all (λ y. list_any (same y) xs) ys

  pub among_itself : ((x : A) → same x x ≡ true) → (xs : List A) → all_among xs xs ≡ true
  among_itself itself [] = refl
  among_itself itself (x ∷ xs) =
      both_hold (same x x || list_any (same x) xs) (all_among (x ∷ xs) xs) (or_first (same x x) (list_any (same x) xs) (itself x))
      (all_mono (λ y. list_any (same y) xs) (λ y. list_any (same y) (x ∷ xs)) (λ y e. or_there (same y x) (list_any (same y) xs) e) xs (among_itself itself xs))

  pub among_left : (xs zs ys : List A) → all_among xs ys ≡ true → all_among (xs ++ zs) ys ≡ true
  among_left xs zs ys e =
      all_mono (λ y. list_any (same y) xs) (λ y. list_any (same y) (xs ++ zs))
      (λ y h. list_any-append (same y) xs zs ∙ or_first (list_any (same y) xs) (list_any (same y) zs) h) ys e

  pub among_right : (xs zs ys : List A) → all_among zs ys ≡ true → all_among (xs ++ zs) ys ≡ true
  among_right xs zs ys e =
      all_mono (λ y. list_any (same y) zs) (λ y. list_any (same y) (xs ++ zs))
      (λ y h. list_any-append (same y) xs zs ∙ or_there (list_any (same y) xs) (list_any (same y) zs) h) ys e

  pub among_one : (xs ys zs : List A) → all_among xs ys ≡ true → all_among xs zs ≡ true → all_among xs (ys ++ zs) ≡ true
  among_one xs ys zs e f =
      list_all-append (λ y. list_any (same y) xs) ys zs ∙ both_hold (all_among xs ys) (all_among xs zs) e f

  pub among_two : (xs ys xs' ys' : List A) → all_among xs xs' ≡ true → all_among ys ys' ≡ true → all_among (xs ++ ys) (xs' ++ ys') ≡ true
  among_two xs ys xs' ys' e f = among_one (xs ++ ys) xs' ys' (among_left xs ys xs' e) (among_right xs ys ys' f)

  -- what passes in a list of which one element is this
  found : ((x y : A) → same x y ≡ true → x ≡ y) → (p : A → Bool) (z : A) (ys : List A) → list_any (same z) ys ≡ true → list_all p ys ≡ true → p z ≡ true
  found equal p z [] e f = absurd (true≢false (sym e))
  found equal p z (y ∷ ys) e f =
      let parts = both (p y) (list_all p ys) f in
      elim (decided (same z y)) [
        | inl t ↦ subst (λ x. p x ≡ true) (sym (equal z y t)) parts.0
        | inr n ↦ found equal p z ys (or_false (same z y) (list_any (same z) ys) n e) parts.1
      ]

  pub among_through : ((x y : A) → same x y ≡ true → x ≡ y) → (xs ys zs : List A) → all_among xs ys ≡ true → all_among ys zs ≡ true → all_among xs zs ≡ true
  among_through equal xs ys zs e f =
      all_mono (λ z. list_any (same z) ys) (λ z. list_any (same z) xs) (λ z h. found equal (λ y. list_any (same y) xs) z ys h e) zs f

pub number_itself : (n : ℕ) → (n == n) ≡ true
number_itself n = eq-eqb n n refl

pub number_same : (m n : ℕ) → (m == n) ≡ true → m ≡ n
number_same m n e = eqb-true m n e
