-- Laws of names and of the variables that have them.
use Rattle.std.proofs.Common.{◌≡◌, ℕ, Bool, true, false, ◌&&◌, ◌==◌, List, [], ◌∷◌, refl, sym, ap, ◌∙◌, arith}
use Rattle.std.specs.Cmp.Lexicographic.{pointwise}
use Rattle.std.proofs.lemmas.Bool.{and_parts, eqb-true}
use Rattle.std.proofs.lemmas.Bool.Decides.{nat_tests}
use Rattle.dcc_c.specs.Token.{same_bytes}
use Rattle.dcc_c.specs.Value.{Value, converted, Unplaced, Binding, after_assignment}

-- names that are tested to be one are equal
pub same_bytes-equal : (xs ys : List ℕ) → same_bytes xs ys ≡ true → xs ≡ ys
same_bytes-equal [] [] same = refl
same_bytes-equal [] (y ∷ ys) same = absurd cc
same_bytes-equal (x ∷ xs) [] same = absurd cc
same_bytes-equal (x ∷ xs) (y ∷ ys) same =
    let parts = and_parts (x == y) (same_bytes xs ys) same in
    rw (eqb-true x y parts.0, same_bytes-equal xs ys parts.1) refl

eqb-itself : (n : ℕ) → (n == n) ≡ true
eqb-itself n = grind (arith, nat_tests)

-- a name is tested to be itself
pub same_bytes-refl : (xs : List ℕ) → same_bytes xs xs ≡ true
same_bytes-refl [] = refl
same_bytes-refl (x ∷ xs) = rw (eqb-itself x) (same_bytes-refl xs)

-- the test of two names is that of two texts
pub same_bytes-pointwise : (xs ys : List ℕ) → same_bytes xs ys ≡ pointwise ◌==◌ xs ys
same_bytes-pointwise [] [] = refl
same_bytes-pointwise [] (y ∷ ys) = refl
same_bytes-pointwise (x ∷ xs) [] = refl
same_bytes-pointwise (x ∷ xs) (y ∷ ys) = ap (λ b. (x == y) && b) (same_bytes-pointwise xs ys)

-- what a comparison of two texts answered
pub same_bytes-answer : (name text word : List ℕ) {r answer : Bool} → text ≡ name → r ≡ pointwise ◌==◌ text word → r ≡ answer → same_bytes name word ≡ answer
same_bytes-answer name text word {r} {answer} is asked was =
    same_bytes-pointwise name word ∙ ap (λ l. pointwise ◌==◌ l word) (sym is) ∙ sym asked ∙ was

-- what an assignment to a name does to the first of the variables
pub after_assignment-other : (b : Binding) (bs : List Binding) (word : List ℕ) (v : Value) → same_bytes b.name word ≡ false →
    after_assignment (b ∷ bs) word v ≡ b ∷ after_assignment bs word v
after_assignment-other b bs word v e = rw e refl

pub after_assignment-here : (b : Binding) (bs : List Binding) (word : List ℕ) (v : Value) → same_bytes b.name word ≡ true →
    after_assignment (b ∷ bs) word v ≡ record b { storage = Unplaced (converted b.type v).bits } ∷ bs
after_assignment-here b bs word v e = rw e refl
