-- Elements of lists that are made of lists.
use Rattle.std.proofs.Common.{◌≡◌, ℕ, suc, ◌+◌, ◌<◌, Bool, true, false, List, [], ◌∷◌, ◌++◌, map, refl, sym, ap, ◌∙◌, subst, true≢false, arith, Contains, flat_map}
use Rattle.std.specs.Prelude.{filter, All, if◌then◌else◌}
use Rattle.std.specs.List.{range_with_len, list_any}
use Rattle.std.proofs.lemmas.Bool.{or_cases, or_left, or_right}
use Rattle.std.proofs.Common.{inl, inr}
use Rattle.std.proofs.lemmas.List.Elements.{Contains-append_left, Contains-append_right, Contains-append_cases, All-contains}
use Rattle.std.proofs.lemmas.List.{append-nil}
use Rattle.std.proofs.lemmas.List.Concat.{flat_map-cons}
use Rattle.std.proofs.lemmas.List.FromFn.{length-range_with_len, get_or-range_with_len}
use Rattle.std.proofs.lemmas.Grind.{flat_map-append}
use Rattle.dcc_flow.proofs.WorkLaws.{range_more}
use Rattle.dcc_ir.proofs.LocationLaws.{Contains-here, Contains-later, Contains-none, Contains-cases}

-- Maps.

pub from_map : {A B : Type 0} (f : A → B) (xs : List A) (y : B) → Contains (map f xs) y → (x : A) × Contains xs x × (f x ≡ y)
from_map f [] y c = absurd (Contains-none y c)
from_map {A} f (x ∷ xs) y c = Contains-cases (f x) (map f xs) y ((z : A) × Contains (x ∷ xs) z × (f z ≡ y)) (λ e. (x, Contains-here x xs, e))
    (λ d. let on = from_map f xs y d in (on.0, Contains-later x xs on.0 on.1, on.2)) c

pub in_flat : {A B : Type 0} (f : A → List B) (xs : List A) (x : A) (y : B) → Contains xs x → Contains (f x) y → Contains (flat_map f xs) y
in_flat f [] x y c d = absurd (Contains-none x c)
in_flat f (z ∷ xs) x y c d = subst (λ l. Contains l y) (sym (flat_map-cons f z xs))
    (Contains-cases z xs x (Contains (f z ++ flat_map f xs) y) (λ e. Contains-append_left (f z) (flat_map f xs) y (subst (λ w. Contains (f w) y) (sym e) d))
    (λ later. Contains-append_right (f z) (flat_map f xs) y (in_flat f xs x y later d)) c)

pub from_flat : {A B : Type 0} (f : A → List B) (xs : List A) (y : B) → Contains (flat_map f xs) y → (x : A) × Contains xs x × Contains (f x) y
from_flat f [] y c = absurd (Contains-none y c)
from_flat f (x ∷ xs) y c = elim (Contains-append_cases (f x) (flat_map f xs) y (subst (λ l. Contains l y) (flat_map-cons f x xs) c)) [
  | inl d ↦ (x, Contains-here x xs, d)
  | inr d ↦ let on = from_flat f xs y d in (on.0, Contains-later x xs on.0 on.1, on.2)
]

-- Filters.

pub in_filter : {A : Type 0} (test : A → Bool) (xs : List A) (x : A) → Contains xs x → test x ≡ true → Contains (filter test xs) x
in_filter test [] x c t = absurd (Contains-none x c)
in_filter test (y ∷ xs) x c t = Contains-cases y xs x (Contains (filter test (y ∷ xs)) x)
    (λ e. subst (λ b. Contains (if b then y ∷ filter test xs else filter test xs) x) (sym (ap test e ∙ t)) (subst (Contains (y ∷ filter test xs)) e (Contains-here y (filter test xs))))
    (λ d. further (test y) (in_filter test xs x d t)) c
  where
    further : (b : Bool) → Contains (filter test xs) x → Contains (if b then y ∷ filter test xs else filter test xs) x
    further true d = Contains-later y (filter test xs) x d
    further false d = d

pub from_filter : {A : Type 0} (test : A → Bool) (xs : List A) (x : A) → Contains (filter test xs) x → Contains xs x × (test x ≡ true)
from_filter test [] x c = absurd (Contains-none x c)
from_filter test (y ∷ xs) x c = by (test y) refl (from_filter test xs x) c
  where
    by : (b : Bool) → test y ≡ b → (Contains (filter test xs) x → Contains xs x × (test x ≡ true)) → Contains (if b then y ∷ filter test xs else filter test xs) x
        → Contains (y ∷ xs) x × (test x ≡ true)
    by true t rest d = Contains-cases y (filter test xs) x (Contains (y ∷ xs) x × (test x ≡ true)) (λ e. (subst (Contains (y ∷ xs)) e (Contains-here y xs), ap test (sym e) ∙ t))
        (λ later. let on = rest later in (Contains-later y xs x on.0, on.1)) d
    by false t rest d = let on = rest d in (Contains-later y xs x on.0, on.1)

-- Ranges.

pub in_range : (n k : ℕ) → k < n → Contains (range_with_len 0 n) k
in_range n k below = let size = length-range_with_len 0 n in (k, omega (arith, below, size), get_or-range_with_len 0 n k k below ∙ omega arith)

pub from_range : (n k : ℕ) → Contains (range_with_len 0 n) k → k < n
from_range n k c = All-contains (λ j. j < n) (range_with_len 0 n) k all c
  where
    all : All (λ j. j < n) (range_with_len 0 n)
    all j d inside =
        let below : j < n = omega (arith, inside, length-range_with_len 0 n) in
        let read = get_or-range_with_len 0 n j d below in
        omega (arith, read, below)

pub flat_range_more : {A : Type 0} (f : ℕ → List A) (n : ℕ) → flat_map f (range_with_len 0 n) ++ f n ≡ flat_map f (range_with_len 0 (n + 1))
flat_range_more f n =
    let zero_plus : n ≡ 0 + n = omega arith in
    let one_more : suc n ≡ n + 1 = omega arith in
    let last : flat_map f (n ∷ []) ≡ f n = flat_map-cons f n [] ∙ append-nil (f n) in
    ap (λ l. flat_map f (range_with_len 0 n) ++ l) (sym last) ∙ sym (flat_map-append f (range_with_len 0 n) (n ∷ []))
    ∙ ap (λ k. flat_map f (range_with_len 0 n ++ k ∷ [])) zero_plus ∙ ap (flat_map f) (range_more 0 n) ∙ ap (λ k. flat_map f (range_with_len 0 k)) one_more

-- Some element passes a test.

pub in_any : {A : Type 0} (test : A → Bool) (xs : List A) (x : A) → Contains xs x → test x ≡ true → list_any test xs ≡ true
in_any test [] x c t = absurd (Contains-none x c)
in_any test (y ∷ xs) x c t = Contains-cases y xs x (list_any test (y ∷ xs) ≡ true) (λ e. or_left (test y) (list_any test xs) (ap test e ∙ t)) (λ d. or_right (test y) (list_any test xs) (in_any test xs x d t)) c

pub from_any : {A : Type 0} (test : A → Bool) (xs : List A) → list_any test xs ≡ true → (x : A) × Contains xs x × (test x ≡ true)
from_any test [] e = absurd (true≢false (sym e))
from_any test (x ∷ xs) e = elim (or_cases (test x) (list_any test xs) e) [
  | inl t ↦ (x, Contains-here x xs, t)
  | inr s ↦ let on = from_any test xs s in (on.0, Contains-later x xs on.0 on.1, on.2)
]
