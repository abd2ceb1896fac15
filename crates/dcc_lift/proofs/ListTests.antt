-- Laws of tests and of the lists in which one passes.
use Rattle.std.proofs.Common.{◌≡◌, ℕ, zero, suc, ◌<◌, Bool, true, false, cond, ◌&&◌, ◌||◌, not, if◌then◌else◌, ◌==◌, ◌⊎◌, inl, inr, List, [], ◌∷◌, map, filter, flat_map, Some, slice_get, get_or, length, Contains, refl, sym, ap, ◌∙◌, true≢false, eqb-true, eq-eqb, arith}
use Rattle.std.specs.List.{list_any}
use Rattle.std.proofs.lemmas.List.Folds.{list_any-append}
use Rattle.dcc_ir.proofs.PathLaws.{decided, or_false}

-- Tests.

pub and_left : (a b : Bool) → (a && b) ≡ true → a ≡ true
and_left true b e = refl
and_left false b e = absurd (true≢false (sym e))

pub and_right : (a b : Bool) → (a && b) ≡ true → b ≡ true
and_right true b e = e
and_right false b e = absurd (true≢false (sym e))

pub and_both : (a b : Bool) → a ≡ true → b ≡ true → (a && b) ≡ true
and_both true b e f = f
and_both false b e f = e

pub and_false : (a : Bool) → (a && false) ≡ false
and_false true = refl
and_false false = refl

pub or_here : (a b : Bool) → a ≡ true → (a || b) ≡ true
or_here a b e = ap (λ c. c || b) e

pub or_there : (a b : Bool) → b ≡ true → (a || b) ≡ true
or_there true b e = refl
or_there false b e = e

pub or_cases : (a b : Bool) → (a || b) ≡ true → (a ≡ true) ⊎ (b ≡ true)
or_cases true b e = inl refl
or_cases false b e = inr e

pub or_none : (a : Bool) → (a || false) ≡ a
or_none true = refl
or_none false = refl

pub not_true : (a : Bool) → not a ≡ true → a ≡ false
not_true true e = absurd (true≢false (sym e))
not_true false e = refl

pub same_number : (n : ℕ) → (n == n) ≡ true
same_number n = eq-eqb n n refl

-- what holds of two values holds of the one that is chosen
pub of_either : {X : Type 0} (P : X → Type 0) (b : Bool) (x y : X) → P x → P y → P (if b then x else y)
of_either P true x y p q = p
of_either P false x y p q = q

-- two tests that pass each where the other does are one
pub same_test : (a b : Bool) → (a ≡ true → b ≡ true) → (b ≡ true → a ≡ true) → a ≡ b
same_test true b f g = sym (f refl)
same_test false true f g = g refl
same_test false false f g = refl

-- Lists.

-- tests that agree
pub any_agree : {X : Type 0} (f g : X → Bool) → ((x : X) → f x ≡ g x) → (xs : List X) → list_any f xs ≡ list_any g xs
any_agree f g same [] = refl
any_agree f g same (x ∷ xs) = rw (same x, any_agree f g same xs) refl

pub any_map : {X Y : Type 0} (p : Y → Bool) (h : X → Y) (xs : List X)
    → list_any p (map h xs) ≡ list_any (λ x. p (h x)) xs
any_map p h [] = refl
any_map p h (x ∷ xs) = ap (λ b. p (h x) || b) (any_map p h xs)

-- a test of the values of a table's entries, where it is made
pub any_value : {V : Type 0} (test : V → Bool) (entries : List (ℕ × V)) {made result : Bool}
    → result ≡ list_any test (map (λ (entry : ℕ × V). entry.1) entries) → made ≡ true
    → result ≡ (made && list_any (λ (entry : ℕ × V). test entry.1) entries)
any_value {V = V} test entries is so =
    is ∙ any_map test (λ (entry : ℕ × V). entry.1) entries
    ∙ sym (ap (λ b. b && list_any (λ (entry : ℕ × V). test entry.1) entries) so)

pub any_flat_map : {X Y : Type 0} (p : Y → Bool) (f : X → List Y) (xs : List X)
    → list_any p (flat_map f xs) ≡ list_any (λ x. list_any p (f x)) xs
any_flat_map p f [] = refl
any_flat_map p f (x ∷ xs) = list_any-append p (f x) (flat_map f xs)
    ∙ ap (λ b. list_any p (f x) || b) (any_flat_map p f xs)

-- a test that does not look at the elements
pub any_constant : {X : Type 0} (c : Bool) (test : X → Bool) (xs : List X)
    → list_any (λ x. c) (filter test xs) ≡ (c && list_any test xs)
any_constant c test [] = sym (and_false c)
any_constant {X = X} c test (x ∷ xs) = go (test x) c (filter test xs) (list_any test xs) (any_constant c test xs)
  where
    go : (b c : Bool) (kept : List X) (rest : Bool) → list_any (λ x. c) kept ≡ (c && rest)
        → list_any (λ x. c) (cond b (x ∷ kept) kept) ≡ (c && (b || rest))
    go true true kept rest e = refl
    go true false kept rest e = e
    go false c kept rest e = e

-- a number among those that pass a test
pub any_filter : (test : ℕ → Bool) (a : ℕ) (xs : List ℕ)
    → list_any (λ x. x == a) (filter test xs) ≡ (list_any (λ x. x == a) xs && test a)
any_filter test a [] = refl
any_filter test a (x ∷ xs) = go (test x) refl (x == a) refl (any_filter test a xs)
  where
    go : (b : Bool) → test x ≡ b → (c : Bool) → (x == a) ≡ c
        → list_any (λ x. x == a) (filter test xs) ≡ (list_any (λ x. x == a) xs && test a)
        → list_any (λ x. x == a)
        (cond b (x ∷ filter test xs) (filter test xs)) ≡ ((c || list_any (λ x. x == a) xs) && test a)
    go true t true s e = ap (λ d. d || list_any (λ x. x == a) (filter test xs)) s ∙ sym t ∙ ap test (eqb-true x a s)
    go true t false s e = ap (λ d. d || list_any (λ x. x == a) (filter test xs)) s ∙ e
    go false t true s e =
        let none : test a ≡ false = sym (ap test (eqb-true x a s)) ∙ t in
        e ∙ ap (λ d. list_any (λ x. x == a) xs && d) none ∙ and_false (list_any (λ x. x == a) xs) ∙ sym none
    go false t false s e = e

-- a number, where another test passes at it
pub any_same : (test : ℕ → Bool) (b : ℕ) (xs : List ℕ)
    → list_any (λ x. test x && (x == b)) xs ≡ (test b && list_any (λ x. x == b) xs)
any_same test b [] = sym (and_false (test b))
any_same test b (x ∷ xs) = go (x == b) refl (any_same test b xs)
  where
    go : (c : Bool) → (x == b) ≡ c → list_any (λ x. test x && (x == b)) xs ≡ (test b && list_any (λ x. x == b) xs)
        → ((test x && c) || list_any (λ x. test x && (x == b)) xs) ≡ (test b && (c || list_any (λ x. x == b) xs))
    go true s e = rw (e, ap test (eqb-true x b s)) (both (test b) (list_any (λ x. x == b) xs))
      where
        both : (u v : Bool) → ((u && true) || (u && v)) ≡ (u && true)
        both true v = refl
        both false v = refl
    go false s e = ap (λ d. d || list_any (λ x. test x && (x == b)) xs) (and_false (test x)) ∙ e

-- what passes a test in a list, and where
pub record Passing {X : Type 0} (test : X → Bool) (xs : List X) : Type 0 where
  pub element : X
  pub place : ℕ
  pub found : slice_get xs place ≡ Some element
  pub passes : test element ≡ true

pub passing : {X : Type 0} (test : X → Bool) (xs : List X) → list_any test xs ≡ true → Passing test xs
passing test [] e = absurd (true≢false (sym e))
passing test (x ∷ xs) e = elim (decided (test x)) [
  | inl t ↦ record { element = x; place = 0; found = refl; passes = t }
  | inr n ↦
      let later = passing test xs (or_false (test x) (list_any test xs) n e) in
      record { element = later.element; place = suc later.place; found = later.found; passes = later.passes }
]

-- an element of a list that passes a test
pub any_at : {X : Type 0} (test : X → Bool) (xs : List X) (place : ℕ) (x : X) → slice_get xs place ≡ Some x
    → test x ≡ true → list_any test xs ≡ true
any_at test [] place x e t = absurd (cc)
any_at test (y ∷ ys) zero x e t = let same : y ≡ x = cc in or_here (test y) (list_any test ys) (ap test same ∙ t)
any_at test (y ∷ ys) (suc place) x e t = or_there (test y) (list_any test ys) (any_at test ys place x e t)

-- an element is in a list where the test for it passes
pub any_contained : (xs : List ℕ) (a : ℕ) → Contains xs a → list_any (λ x. x == a) xs ≡ true
any_contained [] a h = absurd (omega (arith, h.1))
any_contained (x ∷ xs) a h = go (λ k less e. any_contained xs a (k, less, e)) h.0 h.1 h.2
  where
    go : ((k : ℕ) → k < length xs → get_or xs k a ≡ a → list_any (λ x. x == a) xs ≡ true) → (k : ℕ)
        → k < length (x ∷ xs) → get_or (x ∷ xs) k a ≡ a
        → list_any (λ x. x == a) (x ∷ xs) ≡ true
    go later zero less e = or_here (x == a) (list_any (λ x. x == a) xs) (eq-eqb x a e)
    go later (suc k) less e = or_there (x == a) (list_any (λ x. x == a) xs) (later k (omega arith) e)

pub contained_any : (xs : List ℕ) (a : ℕ) → list_any (λ x. x == a) xs ≡ true → Contains xs a
contained_any [] a e = absurd (true≢false (sym e))
contained_any (x ∷ xs) a e = elim (decided (x == a)) [
  | inl t ↦ (0, omega arith, eqb-true x a t)
  | inr n ↦ let later = contained_any xs a (or_false (x == a) (list_any (λ x. x == a) xs) n e) in
      (suc later.0, omega (arith, later.1), later.2)
]
