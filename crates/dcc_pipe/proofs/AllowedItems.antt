-- Cases that differ, and what a choice and its arms need.
use Rattle.std.proofs.Common.{◌≡◌, ℕ, suc, ◌<◌, Bool, true, false, ◌==◌, List, [], ◌∷◌, ◌++◌, get_or, length, refl, sym, ap, ◌∙◌, true≢false, arith}
use Rattle.std.specs.Prelude.{◌&&◌, ◌||◌, not, nat_le}
use Rattle.std.specs.List.{list_all}
use Rattle.std.proofs.Math.Bool.{and-false}
use Rattle.std.proofs.lemmas.Bool.{and_from, or_right, eqb-true, eq-eqb, le-leb, false_from_ne_true}
use Rattle.std.proofs.lemmas.List.Folds.{list_any-append}
use Rattle.dcc_c.specs.Rules.{differ}
use Rattle.dcc_c.proofs.Writable.{are_cases}
use Rattle.dcc_control.specs.declared.item.Arm.{Arm as TheArm}
use Rattle.dcc_control.specs.Plan.{is_in}
use Rattle.dcc_control.specs.Views.{arms_of}
use Rattle.dcc_plan.specs.Allowed.{has_an_arm}
use Rattle.dcc_plan.proofs.PlacedItems.{differ-both}

all-small : (cases : List ℕ) → ((k : ℕ) → get_or cases k 0 < 65536) → list_all (λ m. nat_le m 65535) cases ≡ true
all-small [] fit = refl
all-small (n ∷ cases) fit =
    let small : n < 65536 = fit 0 in
    and_from (nat_le n 65535) (list_all (λ m. nat_le m 65535) cases) (le-leb n 65535 (omega (arith, small))) (all-small cases (λ k. fit (suc k)))

-- numbers of 16 bits are cases where there is one
pub some-cases : (cases : List ℕ) → ((k : ℕ) → get_or cases k 0 < 65536) → not (length cases == 0) ≡ are_cases cases
some-cases [] fit = refl
some-cases (n ∷ cases) fit =
    let some : (length (n ∷ cases) == 0) ≡ false = false_from_ne_true (length (n ∷ cases) == 0) (λ e. let same = eqb-true (length (n ∷ cases)) 0 e in absurd (omega (arith, same))) in
    ap not some ∙ sym (all-small (n ∷ cases) fit)

-- a number that isn't among others that differ
pub differ-more : (xs : List ℕ) (n : ℕ) → differ xs ≡ true → is_in n xs ≡ false → differ (xs ++ n ∷ []) ≡ true
differ-more xs n all apart = differ-both xs (n ∷ []) all refl (λ m there. by m there (n == m) refl)
  where
    by : (m : ℕ) → is_in m xs ≡ true → (same : Bool) → (n == m) ≡ same → (same || false) ≡ false
    by m there true same = absurd (true≢false (sym there ∙ ap (λ k. is_in k xs) (sym (eqb-true n m same)) ∙ apart))
    by m there false other = refl

-- a number that stands twice
pub differ-twice : (xs : List ℕ) (n : ℕ) (ys : List ℕ) → is_in n xs ≡ true → differ (xs ++ n ∷ ys) ≡ false
differ-twice [] n ys there = absurd (true≢false (sym there))
differ-twice (x ∷ xs) n ys there = by (x == n) refl there (differ-twice xs n ys)
  where
    by : (same : Bool) → (x == n) ≡ same → (same || is_in n xs) ≡ true → (is_in n xs ≡ true → differ (xs ++ n ∷ ys) ≡ false)
        → (not (is_in x (xs ++ n ∷ ys)) && differ (xs ++ n ∷ ys)) ≡ false
    by true same there later =
        ap (λ found. not found && differ (xs ++ n ∷ ys))
        (list_any-append (λ a. a == x) xs (n ∷ ys) ∙ or_right (is_in x xs) (is_in x (n ∷ ys)) (ap (λ t. t || is_in x ys) (eq-eqb n x (sym (eqb-true x n same)))))
    by false other there later = ap (λ d. not (is_in x (xs ++ n ∷ ys)) && d) (later there) ∙ and-false (not (is_in x (xs ++ n ∷ ys)))

-- a choice with arms has one
pub some-arm : (arms : List TheArm) → (length arms == 0) ≡ false → has_an_arm (arms_of arms) ≡ true
some-arm [] none = absurd (true≢false none)
some-arm (a ∷ arms) some = refl
