-- Sets and tallies of numbers, and the labels of the offsets in them.
use Rattle.std.proofs.Common.{◌≡◌, ℕ, suc, ◌+◌, ◌<◌, ◌≤◌, Bool, true, false, cond, List, [], ◌∷◌, Some, get_or, length, take, refl, sym, ap, ◌∙◌, inl, inr, arith}
use Rattle.std.specs.Prelude.{◌==◌, ◌&&◌, ◌||◌, nat_le}
use Rattle.std.specs.List.{list_any, count_by, IsDistinct}
use Rattle.std.proofs.Math.Dec.{eqb}
use Rattle.std.proofs.lemmas.Map.Steps.{length-le_from_distinct_below}
use Rattle.std.specs.BTreeSet.{BTreeSet, contains, Updates}
use Rattle.std.specs.Ordering.{nat_cmp}
use Rattle.std.specs.Cmp.{unsigned_tied}
use Rattle.std.proofs.lemmas.Bool.{le-leb, eqb-true, or_cases, or_from, and_parts, and_left, false_from_ne_true}
use Rattle.std.proofs.lemmas.List.Folds.{list_any_more}
use Rattle.std.proofs.lemmas.List.Sums.{sum_by-cons}
use Rattle.dcc_c.specs.Tree.{Word}
use Rattle.dcc_c.specs.Token.{same_bytes}
use Rattle.dcc_c.proofs.NameLaws.{same_bytes-equal}
use Rattle.dcc_flow.specs.Edges.{is_in}
use Rattle.dcc_shape.specs.declared.tally.Tally.{Tally}
use Rattle.dcc_shape.specs.Shape.{label_of, names_one}
use Rattle.dcc_shape.specs.Known.{IsSetOf, IsTally, AreNamed}
use Rattle.dcc_shape.proofs.LabelLaws.{labels-tell}
use Rattle.dcc_shape.proofs.ListLaws.{flip}

or-false : (a : Bool) → (a || false) ≡ a
or-false true = refl
or-false false = refl

and-true : (a : Bool) → (a && true) ≡ a
and-true true = refl
and-true false = refl

-- Sets.

module _ (old new : BTreeSet ℕ) (n : ℕ) (updates : Updates nat_cmp old new n true) where
  pub set-at : (q : ℕ) → contains nat_cmp new q ≡ (contains nat_cmp old q || (n == q))
  set-at q =
      updates.0 q ∙ ap (λ b. cond b true (contains nat_cmp old q)) (unsigned_tied n q) ∙ turned (n == q) (contains nat_cmp old q)
    where
      turned : (b t : Bool) → cond b true t ≡ (t || b)
      turned true true = refl
      turned true false = refl
      turned false true = refl
      turned false false = refl

  -- a number before others
  pub set-before : (numbers : List ℕ) → IsSetOf old numbers → IsSetOf new (n ∷ numbers)
  set-before numbers had = λ q. set-at q ∙ ap (λ b. b || (n == q)) (had q) ∙ swapped (is_in numbers q) (n == q)
    where
      swapped : (a b : Bool) → (a || b) ≡ (b || a)
      swapped true true = refl
      swapped true false = refl
      swapped false true = refl
      swapped false false = refl

-- Those of the addresses so far that pass a test.

met : (b t e : Bool) → (e ≡ true → t ≡ true) → ((b && t) || e) ≡ ((b || e) && t)
met true t e all = kept t e all
  where
    kept : (t e : Bool) → (e ≡ true → t ≡ true) → (t || e) ≡ t
    kept true e all = refl
    kept false true all = sym (all refl)
    kept false false all = refl
met false t true all = sym (all refl)
met false t false all = refl

unmet : (b t e : Bool) → (e ≡ true → t ≡ false) → (b && t) ≡ ((b || e) && t)
unmet true t e none = refl
unmet false t true none = sym (none refl)
unmet false t false none = refl

module _ (known : BTreeSet ℕ) (ats : List ℕ) (i : ℕ) (test : ℕ → Bool) (less : i < length ats)
    (had : (n : ℕ) → contains nat_cmp known n ≡ (is_in (take i ats) n && test n)) where
  pub meeting-more : (new : BTreeSet ℕ) → test (get_or ats i 0) ≡ true → Updates nat_cmp known new (get_or ats i 0) true
      → (n : ℕ) → contains nat_cmp new n ≡ (is_in (take (i + 1) ats) n && test n)
  meeting-more new passes updates n =
      let at = get_or ats i 0 in
      set-at known new at updates n
      ∙ ap (λ b. b || (at == n)) (had n)
      ∙ met (is_in (take i ats) n) (test n) (at == n) (λ e. ap test (sym (eqb-true at n e)) ∙ passes)
      ∙ ap (λ b. b && test n) (sym (list_any_more (λ m. m == n) ats i 0 less))

  pub meeting-none : test (get_or ats i 0) ≡ false → (n : ℕ) → contains nat_cmp known n ≡ (is_in (take (i + 1) ats) n && test n)
  meeting-none fails n =
      let at = get_or ats i 0 in
      had n
      ∙ unmet (is_in (take i ats) n) (test n) (at == n) (λ e. ap test (sym (eqb-true at n e)) ∙ fails)
      ∙ ap (λ b. b && test n) (sym (list_any_more (λ m. m == n) ats i 0 less))

-- Tallies.

pub tally-same : (tally : Tally) (f g : ℕ → ℕ) → ((n : ℕ) → f n ≡ g n) → IsTally tally f → IsTally tally g
tally-same tally f g same is = record { once = λ n. is.once n ∙ ap (nat_le 1) (same n); twice = λ n. is.twice n ∙ ap (nat_le 2) (same n) }

pub any-count : {X : Type 0} (p : X → Bool) (xs : List X) → nat_le 1 (count_by p xs) ≡ list_any p xs
any-count p [] = refl
any-count p (x ∷ xs) = ap (nat_le 1) (sum_by-cons (λ y. cond (p y) 1 0) x xs) ∙ step (p x) (count_by p xs) (list_any p xs) (any-count p xs)
  where
    step : (b : Bool) (k : ℕ) (r : Bool) → nat_le 1 k ≡ r → nat_le 1 (cond b 1 0 + k) ≡ (b || r)
    step true k r e = le-leb 1 (1 + k) (omega arith)
    step false k r e = ap (nat_le 1) (let same : 0 + k ≡ k = omega arith in same) ∙ e

-- Numbers of 16 bits.

below-bound : (ns : List ℕ) → ((n : ℕ) → get_or ns n 0 < 65536) → (q : ℕ) → list_any (eqb q) ns ≡ true → q < 65536
below-bound [] fit q h = absurd cc
below-bound (m ∷ ns) fit q h = elim (or_cases (eqb q m) (list_any (eqb q) ns) h) [
  | inl e ↦ let first : m < 65536 = fit 0 in omega (arith, first, eqb-true q m e)
  | inr t ↦ below-bound ns (λ n. fit (suc n)) q t
]

-- those that differ are no more than there are
pub few-numbers : (ns : List ℕ) → ((n : ℕ) → get_or ns n 0 < 65536) → IsDistinct eqb ns → length ns ≤ 65536
few-numbers ns fit differ = length-le_from_distinct_below ns 65536 differ (below-bound ns fit)

-- Labels.

names-step : (b x t u : Bool) → (b ≡ true → u ≡ t) → ((b && u) || (x && t)) ≡ ((b || x) && t)
names-step true x t u same = ap (λ v. v || (x && t)) (same refl) ∙ absorbed t x
  where
    absorbed : (t x : Bool) → (t || (x && t)) ≡ t
    absorbed true x = refl
    absorbed false true = refl
    absorbed false false = refl
names-step false x t u same = refl

module _ (test : ℕ → Bool) where
  names-at : (ats : List ℕ) → ((n : ℕ) → get_or ats n 0 < 65536) → (at : ℕ) → at < 65536 → names_one test ats (Some (label_of at)) ≡ (is_in ats at && test at)
  names-at [] fit at fits = refl
  names-at (p ∷ ats) fit at fits =
      ap (λ b. (b && test p) || names_one test ats (Some (label_of at))) (labels-tell p at (fit 0) fits ∙ flip p at)
      ∙ ap (λ b. ((p == at) && test p) || b) (names-at ats (λ n. fit (suc n)) at fits)
      ∙ names-step (p == at) (is_in ats at) (test at) (test p) (λ e. ap test (eqb-true p at e))

  no-names : (ats : List ℕ) (word : Word) → ((at : ℕ) → ¬ (word ≡ label_of at)) → names_one test ats (Some word) ≡ false
  no-names [] word none = refl
  no-names (p ∷ ats) word none =
      or_from (same_bytes (label_of p) word && test p) (names_one test ats (Some word))
      (and_left (same_bytes (label_of p) word) (test p) (false_from_ne_true (same_bytes (label_of p) word) (λ t. none p (sym (same_bytes-equal (label_of p) word t)))))
      (no-names ats word none)

  -- the set has those of the addresses that pass the test
  pub named-of : (known : BTreeSet ℕ) (ats : List ℕ) → ((n : ℕ) → get_or ats n 0 < 65536) → ((n : ℕ) → contains nat_cmp known n ≡ (is_in ats n && test n))
      → AreNamed known (λ word. names_one test ats (Some word))
  named-of known ats fit are = record {
    offsets = λ at fits. names-at ats fit at fits ∙ sym (are at);
    others = λ word none. no-names ats word none;
  }

  -- a label that names one of the addresses is that of an offset
  pub named-offset : (ats : List ℕ) → ((n : ℕ) → get_or ats n 0 < 65536) → (word : Word) → names_one test ats (Some word) ≡ true → (at : ℕ) × (at < 65536) × (word ≡ label_of at)
  named-offset [] fit word h = absurd cc
  named-offset (p ∷ ats) fit word h = elim (or_cases (same_bytes (label_of p) word && test p) (names_one test ats (Some word)) h) [
    | inl here ↦ (p, fit 0, sym (same_bytes-equal (label_of p) word (and_parts (same_bytes (label_of p) word) (test p) here).0))
    | inr there ↦ named-offset ats (λ n. fit (suc n)) word there
  ]

pub named-heads : (heads : Tally) (ats : List ℕ) → ((n : ℕ) → get_or ats n 0 < 65536) → IsTally heads (λ n. count_by (λ m. m == n) ats)
    → AreNamed heads.once (λ word. names_one (λ at. true) ats (Some word))
named-heads heads ats fit is = named-of (λ at. true) heads.once ats fit (λ n. is.once n ∙ any-count (λ m. m == n) ats ∙ sym (and-true (is_in ats n)))
