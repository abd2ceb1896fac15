-- Sums over lists, and how often a number stands in one.
use Rattle.std.proofs.Common.{◌≡◌, ◌≤◌, ℕ, ◌+◌, ◌*◌, Bool, true, false, ◌==◌, cond, List, [], ◌∷◌, ◌++◌, filter, refl, ap, ◌∙◌, eqb-true, arith}
use Rattle.std.specs.Prelude.{sum_by}
use Rattle.std.specs.List.{list_all}
use Rattle.std.proofs.lemmas.List.Sums.{sum_by-cons}

-- a sum, by the first element and the rest
abbrev pub total : {X : Type 0} → (X → ℕ) → List X → ℕ
total f [] = 0
total f (x ∷ xs) = f x + total f xs

-- 1 where a test passes
abbrev pub one : Bool → ℕ
one true = 1
one false = 0

-- how often a number stands in a list
abbrev pub times : ℕ → List ℕ → ℕ
times c xs = total (λ x. one (x == c)) xs

pub add-le : (a b c d : ℕ) → a ≤ b → c ≤ d → a + c ≤ b + d
add-le a b c d p q = omega (arith, p, q)

pub total-is : {X : Type 0} (f : X → ℕ) (xs : List X) → sum_by f xs ≡ total f xs
total-is f [] = refl
total-is f (x ∷ xs) = sum_by-cons f x xs ∙ ap (λ n. f x + n) (total-is f xs)

pub total-append : {X : Type 0} (f : X → ℕ) (xs ys : List X) → total f (xs ++ ys) ≡ total f xs + total f ys
total-append f [] ys = omega arith
total-append f (x ∷ xs) ys = let rest = total-append f xs ys in omega (arith, rest)

pub total-le : {X : Type 0} (f g : X → ℕ) → ((x : X) → f x ≤ g x) → (xs : List X) → total f xs ≤ total g xs
total-le f g le [] = omega arith
total-le f g le (x ∷ xs) = add-le (f x) (g x) (total f xs) (total g xs) (le x) (total-le f g le xs)

pub total-none : {X : Type 0} (f : X → ℕ) → ((x : X) → f x ≡ 0) → (xs : List X) → total f xs ≡ 0
total-none f none [] = refl
total-none f none (x ∷ xs) = let here = none x in let rest = total-none f none xs in omega (arith, here, rest)

-- where one number has a value of its own, the sum grows by that value as often as the number stands in the list
pub total-split : (c k : ℕ) (f g : ℕ → ℕ) → ((x : ℕ) → x ≡ c → f x ≤ k + g x)
    → ((x : ℕ) → (x == c) ≡ false → f x ≤ g x) → (xs : List ℕ) → total f xs ≤ times c xs * k + total g xs
total-split c k f g at other [] = omega arith
total-split c k f g at other (x ∷ xs) = go (x == c) refl (total-split c k f g at other xs)
  where
    more : (b : Bool) → f x ≤ one b * k + g x → total f xs ≤ times c xs * k + total g xs
        → f x + total f xs ≤ (one b + times c xs) * k + (g x + total g xs)
    more true p q = omega (arith, p, q)
    more false p q = omega (arith, p, q)

    go : (b : Bool) → (x == c) ≡ b → total f xs ≤ times c xs * k + total g xs
        → f x + total f xs ≤ (one b + times c xs) * k + (g x + total g xs)
    go true e rest = let here = at x (eqb-true x c e) in more true (omega (arith, here)) rest
    go false e rest = let here = other x e in more false (omega (arith, here)) rest

-- a part of a list has a number no more often
pub times-filter : (c : ℕ) (keep : ℕ → Bool) (xs : List ℕ) → times c (filter keep xs) ≤ times c xs
times-filter c keep [] = omega arith
times-filter c keep (x ∷ xs) = go (keep x) (times-filter c keep xs)
  where
    go : (b : Bool) → times c (filter keep xs) ≤ times c xs
        → times c (cond b (x ∷ filter keep xs) (filter keep xs)) ≤ one (x == c) + times c xs
    go true rest = omega (arith, rest)
    go false rest = omega (arith, rest)

pub filter-all : (keep : ℕ → Bool) (xs : List ℕ) → list_all keep (filter keep xs) ≡ true
filter-all keep [] = refl
filter-all keep (x ∷ xs) = go (keep x) refl (filter-all keep xs)
  where
    go : (b : Bool) → keep x ≡ b → list_all keep (filter keep xs) ≡ true
        → list_all keep (cond b (x ∷ filter keep xs) (filter keep xs)) ≡ true
    go true e rest = rw e rest
    go false e rest = rest
