-- Laws of lists of numbers and of the places in them.
use Rattle.std.proofs.Common.{◌≡◌, ℕ, zero, suc, ◌<◌, ◌≤◌, true, false, inl, inr, List, [], ◌∷◌, length, get_or, refl, sym, ap, ◌∙◌, subst, arith}
use Rattle.std.proofs.lemmas.Bool.{false≢true, cases_eq, eq-eqb, ne_eqb, and_parts, and_from, or_left, not-true}
use Rattle.std.proofs.lemmas.List.{get_or_default}
use Rattle.std.proofs.lemmas.Map.Keys.{IsDistinct-from_apart}
use Rattle.std.proofs.lemmas.Map.Steps.{length-le_from_distinct_below}
use Rattle.std.proofs.Math.Dec.{eqb}
use Rattle.std.specs.Prelude.{◌==◌, ◌||◌, not}
use Rattle.std.specs.List.{list_any}
use Rattle.dcc_ir.specs.WellFormed.{all_differ}
use Rattle.dcc_flow.specs.Edges.{is_in}
use Rattle.dcc_flow.proofs.Members.{in_here, in_there, in_cases}

pub place_of : (ns : List ℕ) (n : ℕ) → is_in ns n ≡ true → (place : ℕ) × (place < length ns) × (get_or ns place 0 ≡ n)
place_of [] n h = absurd (false≢true h)
place_of (m ∷ ns) n h = elim (in_cases m n ns h) [
  | inl e ↦ (0, omega arith, e)
  | inr t ↦ let there = place_of ns n t in (suc there.0, omega (arith, there.1), there.2)
]

pub in_at : (ns : List ℕ) (place : ℕ) → place < length ns → is_in ns (get_or ns place 0) ≡ true
in_at [] place h = absurd (omega arith)
in_at (n ∷ ns) zero h = in_here n ns
in_at (n ∷ ns) (suc place) h = in_there n (get_or ns place 0) ns (in_at ns place (omega arith))

turned : (n : ℕ) (ns : List ℕ) → list_any (λ m. n == m) ns ≡ is_in ns n
turned n [] = refl
turned n (m ∷ ns) = elim (cases_eq m n) [
  | inl e ↦ or_left (n == m) (list_any (λ x. n == x) ns) (eq-eqb n m (sym e)) ∙ sym (or_left (m == n) (is_in ns n) (eq-eqb m n e))
  | inr o ↦ ap (λ b. b || list_any (λ x. n == x) ns) (ne_eqb n m (λ e. o (sym e))) ∙ turned n ns ∙ sym (ap (λ b. b || is_in ns n) (ne_eqb m n o))
]

pub off_head : (n : ℕ) (ns : List ℕ) → all_differ (n ∷ ns) ≡ true → is_in ns n ≡ false
off_head n ns h = sym (turned n ns) ∙ not-true (list_any (λ m. n == m) ns) (and_parts (not (list_any (λ m. n == m) ns)) (all_differ ns) h).0

pub differ_more : (n : ℕ) (ns : List ℕ) → is_in ns n ≡ false → all_differ ns ≡ true → all_differ (n ∷ ns) ≡ true
differ_more n ns out h = and_from (not (list_any (λ m. n == m) ns)) (all_differ ns) (ap not (turned n ns ∙ out)) h

-- a number stands at one place of a list whose numbers differ
pub one_place : (ns : List ℕ) (i j : ℕ) → all_differ ns ≡ true → i < length ns → j < length ns → get_or ns i 0 ≡ get_or ns j 0 → i ≡ j
one_place [] i j h inside there e = absurd (omega arith)
one_place (n ∷ ns) zero zero h inside there e = refl
one_place (n ∷ ns) zero (suc j) h inside there e =
    absurd (false≢true (sym (off_head n ns h) ∙ subst (λ m. is_in ns m ≡ true) (sym e) (in_at ns j (omega arith))))
one_place (n ∷ ns) (suc i) zero h inside there e =
    absurd (false≢true (sym (off_head n ns h) ∙ subst (λ m. is_in ns m ≡ true) e (in_at ns i (omega arith))))
one_place (n ∷ ns) (suc i) (suc j) h inside there e =
    ap suc (one_place ns i j (and_parts (not (list_any (λ m. n == m) ns)) (all_differ ns) h).1 (omega arith) (omega arith) e)

-- numbers below a bound that differ are no more than it
pub few : (ns : List ℕ) (count : ℕ) → all_differ ns ≡ true → ((n : ℕ) → is_in ns n ≡ true → n < count) → length ns ≤ count
few ns count h below =
    length-le_from_distinct_below ns count
    (IsDistinct-from_apart eqb ns (λ i j d less inside.
    let here = get_or_default ns i d 0 (omega arith) in
    let there = get_or_default ns j d 0 inside in
    ne_eqb (get_or ns i d) (get_or ns j d) (λ e.
    let same : i ≡ j = one_place ns i j h (omega arith) inside (sym here ∙ e ∙ there) in
    omega (arith, same))))
    (λ q t. below q (sym (turned q ns) ∙ t))
