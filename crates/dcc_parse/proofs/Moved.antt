-- Lists that are made from others item by item.
use native.Mathlib.Omega.{arith}
use Rattle.std.proofs.Common.{◌≡◌, ℕ, ◌+◌, List, [], ◌∷◌, ◌++◌, map, length, refl, sym, ap, ◌∙◌, append-nil}

pub none-left : {X : Type 0} (rest : List X) (count : ℕ) → count ≡ length rest → count ≡ 0 → rest ≡ []
none-left [] count same none = refl
none-left (x ∷ rest) count same none = absurd (omega (arith, same, none))

pub one-less : {X : Type 0} {rest more : List X} {x : X} {count fewer : ℕ} → rest ≡ x ∷ more → fewer + 1 ≡ count → count ≡ length rest → fewer ≡ length more
one-less is less same = let long = ap length is in omega (arith, long, less, same)

module _ {A B C D : Type 0} (f : A → D) (g : C → D) (h : B → C) where
  -- what has been made of a list, before the rest, of which there are so many
  pub record IsMoved (found : List A) (rest : List B) (count : ℕ) (whole : List B) : Type 0 where
    pub same : map f found ++ map g (map h rest) ≡ map g (map h whole)
    pub left : count ≡ length rest

  moved : (found : List A) (a : A) (b : B) (rest : List B) → f a ≡ g (h b) →
      map f (found ++ a ∷ []) ++ map g (map h rest) ≡ map f found ++ map g (map h (b ∷ rest))
  moved [] a b rest same = ap (λ x. x ∷ map g (map h rest)) same
  moved (x ∷ found) a b rest same = ap (λ l. f x ∷ l) (moved found a b rest same)

  pub moved-step : (found : List A) (a : A) (b : B) {items : List A} {rest more whole : List B} {count fewer : ℕ} →
      rest ≡ b ∷ more → fewer + 1 ≡ count → items ≡ found ++ a ∷ [] → f a ≡ g (h b) → IsMoved found rest count whole → IsMoved items more fewer whole
  moved-step found a b {items} {rest} {more} is less pushed made before = record {
    same = ap (λ l. map f l ++ map g (map h more)) pushed ∙ moved found a b more made ∙ ap (λ l. map f found ++ map g (map h l)) (sym is) ∙ before.same;
    left = one-less is less before.left;
  }

  pub moved-end : (found : List A) {rest whole : List B} {count : ℕ} → count ≡ 0 → IsMoved found rest count whole → map f found ≡ map g (map h whole)
  moved-end found {rest} {whole} {count} none all =
      sym (append-nil (map f found)) ∙ ap (λ l. map f found ++ map g (map h l)) (sym (none-left rest count all.left none)) ∙ all.same
