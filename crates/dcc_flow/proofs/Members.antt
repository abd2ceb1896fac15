-- Laws of the numbers that a list has.
use Rattle.std.proofs.Common.{◌≡◌, ℕ, zero, suc, Bool, true, false, ◌||◌, not, ◌⊎◌, inl, inr, List, [], ◌∷◌, ◌++◌, get_or, map, refl, sym, ap, ◌∙◌}
use Rattle.std.specs.Prelude.{◌==◌}
use Rattle.std.specs.List.{list_any}
use Rattle.std.proofs.lemmas.Bool.{false≢true, cases_Bool, cases_eq, eqb-true, eq-eqb, ne_eqb, or_cases, or_left, or_right, and_parts, and_from, not-true}
use Rattle.dcc_ir.specs.WellFormed.{all_differ}
use Rattle.dcc_flow.specs.Edges.{is_in}

pub in_here : (n : ℕ) (ns : List ℕ) → is_in (n ∷ ns) n ≡ true
in_here n ns = or_left (n == n) (is_in ns n) (eq-eqb n n refl)

pub in_there : (m n : ℕ) (ns : List ℕ) → is_in ns n ≡ true → is_in (m ∷ ns) n ≡ true
in_there m n ns h = or_right (m == n) (is_in ns n) h

pub in_cases : (m n : ℕ) (ns : List ℕ) → is_in (m ∷ ns) n ≡ true → (m ≡ n) ⊎ (is_in ns n ≡ true)
in_cases m n ns h = elim (or_cases (m == n) (is_in ns n) h) [ inl e ↦ inl (eqb-true m n e) | inr t ↦ inr t ]

pub in_left : (xs ys : List ℕ) (n : ℕ) → is_in xs n ≡ true → is_in (xs ++ ys) n ≡ true
in_left [] ys n h = absurd (false≢true h)
in_left (x ∷ xs) ys n h = elim (or_cases (x == n) (is_in xs n) h) [
  | inl e ↦ or_left (x == n) (is_in (xs ++ ys) n) e
  | inr t ↦ or_right (x == n) (is_in (xs ++ ys) n) (in_left xs ys n t)
]

pub in_right : (xs ys : List ℕ) (n : ℕ) → is_in ys n ≡ true → is_in (xs ++ ys) n ≡ true
in_right [] ys n h = h
in_right (x ∷ xs) ys n h = or_right (x == n) (is_in (xs ++ ys) n) (in_right xs ys n h)

pub in_either : (xs ys : List ℕ) (n : ℕ) → is_in (xs ++ ys) n ≡ true → (is_in xs n ≡ true) ⊎ (is_in ys n ≡ true)
in_either [] ys n h = inr h
in_either (x ∷ xs) ys n h = elim (or_cases (x == n) (is_in (xs ++ ys) n) h) [
  | inl e ↦ inl (or_left (x == n) (is_in xs n) e)
  | inr t ↦ elim (in_either xs ys n t) [
    | inl a ↦ inl (or_right (x == n) (is_in xs n) a)
    | inr b ↦ inr b
  ]
]

-- a test that is not passed, since it would lead to one that is not
pub not_since : (a b : Bool) → (a ≡ true → b ≡ true) → b ≡ false → a ≡ false
not_since a b leads f = elim (cases_Bool a) [ inl t ↦ absurd (false≢true (sym f ∙ leads t)) | inr n ↦ n ]

eq_flip : (m n : ℕ) → (n == m) ≡ (m == n)
eq_flip m n = elim (cases_eq m n) [
  | inl e ↦ eq-eqb n m (sym e) ∙ sym (eq-eqb m n e)
  | inr o ↦ ne_eqb n m (λ e. o (sym e)) ∙ sym (ne_eqb m n o)
]

flipped : (n : ℕ) (ns : List ℕ) → list_any (λ m. n == m) ns ≡ is_in ns n
flipped n [] = refl
flipped n (m ∷ ns) = ap (λ a. a || list_any (λ m. n == m) ns) (eq_flip m n) ∙ ap (λ b. (m == n) || b) (flipped n ns)

pub differ_cons : (n : ℕ) (ns : List ℕ) → is_in ns n ≡ false → all_differ ns ≡ true → all_differ (n ∷ ns) ≡ true
differ_cons n ns out h = and_from (not (list_any (λ m. n == m) ns)) (all_differ ns) (ap not (flipped n ns ∙ out)) h

differ_head : (n : ℕ) (ns : List ℕ) → all_differ (n ∷ ns) ≡ true → is_in ns n ≡ false
differ_head n ns h = sym (flipped n ns) ∙ not-true (list_any (λ m. n == m) ns) (and_parts (not (list_any (λ m. n == m) ns)) (all_differ ns) h).0

-- two lists that share no number
pub differ_append : (xs ys : List ℕ) → all_differ xs ≡ true → all_differ ys ≡ true → ((x : ℕ) → is_in xs x ≡ true → is_in ys x ≡ false) → all_differ (xs ++ ys) ≡ true
differ_append [] ys h k apart = k
differ_append (x ∷ xs) ys h k apart =
    let rest = differ_append xs ys (and_parts (not (list_any (λ m. x == m) xs)) (all_differ xs) h).1 k (λ y t. apart y (in_there x y xs t)) in
    let left : is_in xs x ≡ false = differ_head x xs h in
    let right : is_in ys x ≡ false = apart x (in_here x xs) in
    let both : is_in (xs ++ ys) x ≡ false = elim (cases_Bool (is_in (xs ++ ys) x)) [
      | inl t ↦ elim (in_either xs ys x t) [ inl a ↦ absurd (false≢true (sym left ∙ a)) | inr b ↦ absurd (false≢true (sym right ∙ b)) ]
      | inr f ↦ f
    ] in
    differ_cons x (xs ++ ys) both rest

-- what a function gives at a place, which gives the default past the end
pub at_map : {X Y : Type 0} (f : X → Y) (xs : List X) (i : ℕ) (d : X) → get_or (map f xs) i (f d) ≡ f (get_or xs i d)
at_map f [] i d = refl
at_map f (x ∷ xs) zero d = refl
at_map f (x ∷ xs) (suc i) d = at_map f xs i d
