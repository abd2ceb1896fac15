-- The targets of a choice, and where each stands in the choice's list, as they are gathered one place after the other.
use Rattle.std.proofs.Common.{◌≡◌, ℕ, suc, ◌+◌, Bool, true, false, List, [], ◌∷◌, ◌++◌, map, set, get_or, take, length, refl, sym, ap, ap₂, ◌∙◌, subst, arith, ◌<◌, ◌≤◌}
use Rattle.std.specs.Prelude.{◌==◌, ◌||◌, not, filter, if◌then◌else◌, nat_eq, nat_lt, cond, Option, Some, None}
use Rattle.std.specs.List.{list_any, position, position_or_len}
use Rattle.std.proofs.lemmas.Bool.{eqb-true, eqb-false, ne_eqb, ltb-true, ltb-false}
use Rattle.std.proofs.lemmas.List.Elements.{filter-append}
use Rattle.std.proofs.lemmas.List.{append-nil, take_more, get_or-map, length-take-le}
use Rattle.std.proofs.lemmas.List.Sums.{passes_at_first}
use Rattle.indexmap.specs.IndexSet.{insert_key}
use Rattle.dcc_control.specs.Cases.{with_case}
use Rattle.dcc_control.specs.GotoPlan.{distinct, places_from}

-- Distinct numbers.

-- the numbers besides one
abbrev besides : ℕ → List ℕ → List ℕ
besides n = filter (λ m. not (m == n))

-- another number is among the numbers besides this one where it is among all
any-besides : (n p : ℕ) → (p == n) ≡ false → (ns : List ℕ) → list_any (nat_eq p) (besides n ns) ≡ list_any (nat_eq p) ns
any-besides n p other [] = refl
any-besides n p other (m ∷ ns) = by (m == n) refl (any-besides n p other ns)
  where
    by : (b : Bool) → (m == n) ≡ b → list_any (nat_eq p) (besides n ns) ≡ list_any (nat_eq p) ns
        → list_any (nat_eq p) (if not b then m ∷ besides n ns else besides n ns) ≡ ((p == m) || list_any (nat_eq p) ns)
    by true same rest =
        let no : (p == m) ≡ false = ap (λ k. p == k) (eqb-true m n same) ∙ other in
        rest ∙ sym (ap (λ b. b || list_any (nat_eq p) ns) no)
    by false differs rest = ap (λ b. (p == m) || b) rest

besides-same : (n p : ℕ) → (p == n) ≡ true → (ns : List ℕ) → besides n (insert_key nat_eq ns p) ≡ besides n ns
besides-same n p same ns = by (list_any (nat_eq p) ns)
  where
    by : (b : Bool) → besides n (if b then ns else ns ++ p ∷ []) ≡ besides n ns
    by true = refl
    by false =
        filter-append (λ m. not (m == n)) ns (p ∷ [])
        ∙ ap (λ b. besides n ns ++ (if not b then p ∷ [] else [])) same
        ∙ append-nil (besides n ns)

besides-other : (n p : ℕ) → (p == n) ≡ false → (ns : List ℕ) → besides n (insert_key nat_eq ns p) ≡ insert_key nat_eq (besides n ns) p
besides-other n p other ns = by (list_any (nat_eq p) ns) refl
  where
    by : (b : Bool) → list_any (nat_eq p) ns ≡ b → besides n (if b then ns else ns ++ p ∷ []) ≡ insert_key nat_eq (besides n ns) p
    by true there =
        sym (ap (λ b. if b then besides n ns else besides n ns ++ p ∷ []) (any-besides n p other ns ∙ there))
    by false absent =
        filter-append (λ m. not (m == n)) ns (p ∷ [])
        ∙ ap (λ b. besides n ns ++ (if not b then p ∷ [] else [])) other
        ∙ sym (ap (λ b. if b then besides n ns else besides n ns ++ p ∷ []) (any-besides n p other ns ∙ absent))

-- one more number is inserted
pub distinct-push : (ns : List ℕ) (p : ℕ) → distinct (ns ++ p ∷ []) ≡ insert_key nat_eq (distinct ns) p
distinct-push [] p = refl
distinct-push (n ∷ ns) p = ap (λ l. n ∷ besides n l) (distinct-push ns p) ∙ by (p == n) refl
  where
    all : List ℕ
    all = besides n (distinct ns)

    at : (b : Bool) → n ∷ (if b then all else all ++ p ∷ []) ≡ (if b then n ∷ all else n ∷ (all ++ p ∷ []))
    at true = refl
    at false = refl

    by : (b : Bool) → (p == n) ≡ b → n ∷ besides n (insert_key nat_eq (distinct ns) p) ≡ (if b || list_any (nat_eq p) all then n ∷ all else n ∷ (all ++ p ∷ []))
    by true same = ap (λ l. n ∷ l) (besides-same n p same (distinct ns))
    by false other = ap (λ l. n ∷ l) (besides-other n p other (distinct ns)) ∙ at (list_any (nat_eq p) all)

-- Different numbers.

-- no number of the list is one of those after it
abbrev pub AreApart : List ℕ → Type 0
AreApart [] = Unit {0}
AreApart (n ∷ ns) = (list_any (nat_eq n) ns ≡ false) × AreApart ns

besides-apart : (n : ℕ) (ns : List ℕ) → AreApart ns → AreApart (besides n ns)
besides-apart n [] apart = tt
besides-apart n (m ∷ ns) apart = by (m == n) refl (besides-apart n ns apart.1)
  where
    by : (b : Bool) → (m == n) ≡ b → AreApart (besides n ns) → AreApart (if not b then m ∷ besides n ns else besides n ns)
    by true same rest = rest
    by false differs rest = (any-besides n m differs ns ∙ apart.0, rest)

besides-differ : (n : ℕ) (ns : List ℕ) → list_any (nat_eq n) (besides n ns) ≡ false
besides-differ n [] = refl
besides-differ n (m ∷ ns) = by (m == n) refl (besides-differ n ns)
  where
    by : (b : Bool) → (m == n) ≡ b → list_any (nat_eq n) (besides n ns) ≡ false
        → list_any (nat_eq n) (if not b then m ∷ besides n ns else besides n ns) ≡ false
    by true same rest = rest
    by false differs rest =
        let no : (n == m) ≡ false = ne_eqb n m (λ equal. eqb-false m n differs (sym equal)) in
        ap (λ b. b || list_any (nat_eq n) (besides n ns)) no ∙ rest

pub distinct-apart : (ns : List ℕ) → AreApart (distinct ns)
distinct-apart [] = tt
distinct-apart (n ∷ ns) = (besides-differ n (distinct ns), besides-apart n (distinct ns) (distinct-apart ns))

-- Where numbers stand.

-- one more place
pub places-push : (first t : ℕ) (ns : List ℕ) (p : ℕ) →
    places_from first t (ns ++ p ∷ []) ≡ (if p == t then places_from first t ns ++ (first + length ns) ∷ [] else places_from first t ns)
places-push first t [] p = let here : first ≡ first + 0 = omega arith in ap (λ k. if p == t then k ∷ [] else []) here
places-push first t (n ∷ ns) p = by (n == t) (p == t) (places-push (suc first) t ns p)
  where
    rest : List ℕ
    rest = places_from (suc first) t ns

    more : suc first + length ns ≡ first + suc (length ns)
    more = omega arith

    by : (a b : Bool) → places_from (suc first) t (ns ++ p ∷ []) ≡ (if b then rest ++ (suc first + length ns) ∷ [] else rest)
        → (if a then first ∷ places_from (suc first) t (ns ++ p ∷ []) else places_from (suc first) t (ns ++ p ∷ []))
        ≡ (if b then (if a then first ∷ rest else rest) ++ (first + suc (length ns)) ∷ [] else (if a then first ∷ rest else rest))
    by true true is = ap (λ l. first ∷ l) is ∙ ap (λ k. first ∷ (rest ++ k ∷ [])) more
    by true false is = ap (λ l. first ∷ l) is
    by false true is = is ∙ ap (λ k. rest ++ k ∷ []) more
    by false false is = is

set-next : (x : List ℕ) (xs : List (List ℕ)) (n : ℕ) (new : List ℕ) → set (x ∷ xs) (1 + n) new ≡ x ∷ set xs n new
set-next x xs n new = let next : 1 + n ≡ suc n = omega arith in ap (λ k. set (x ∷ xs) k new) next

-- What is held for each of different numbers, when that of one number changes: nothing else does.
module _ (p : ℕ) (f g : ℕ → List ℕ) (same : (t : ℕ) → (p == t) ≡ false → g t ≡ f t) where
  pub kept : (ts : List ℕ) → list_any (nat_eq p) ts ≡ false → map g ts ≡ map f ts
  kept [] none = refl
  kept (t ∷ ts) none = by (p == t) refl none (kept ts)
    where
      by : (b : Bool) → (p == t) ≡ b → (b || list_any (nat_eq p) ts) ≡ false → (list_any (nat_eq p) ts ≡ false → map g ts ≡ map f ts)
          → g t ∷ map g ts ≡ f t ∷ map f ts
      by true one nowhere rest = cc
      by false other nowhere rest = ap₂ (λ x xs. x ∷ xs) (same t other) (rest nowhere)

  pub changed : (new : List ℕ) → ((t : ℕ) → (p == t) ≡ true → g t ≡ new)
      → (ts : List ℕ) → AreApart ts → map g ts ≡ set (map f ts) (position_or_len (nat_eq p) ts) new
  changed new there [] apart = refl
  changed new there (t ∷ ts) apart = by (p == t) refl (changed new there ts apart.1)
    where
      by : (b : Bool) → (p == t) ≡ b → map g ts ≡ set (map f ts) (position_or_len (nat_eq p) ts) new
          → g t ∷ map g ts ≡ set (f t ∷ map f ts) (if not b then 1 + position_or_len (nat_eq p) ts else 0) new
      by true one rest = ap₂ (λ x xs. x ∷ xs) (there t one) (kept ts (ap (λ k. list_any (nat_eq k) ts) (eqb-true p t one) ∙ apart.0))
      by false other rest = ap₂ (λ x xs. x ∷ xs) (same t other) rest ∙ sym (set-next (f t) (map f ts) (position_or_len (nat_eq p) ts) new)

-- The places of each target, one further on.

some-place : (q : ℕ → Bool) (xs : List ℕ) (i : ℕ) → position q xs ≡ Some i → (position_or_len q xs ≡ i) × (position_or_len q xs < length xs)
some-place q xs i = by (nat_lt (position_or_len q xs) (length xs)) refl
  where
    by : (b : Bool) → nat_lt (position_or_len q xs) (length xs) ≡ b → cond b (Some (position_or_len q xs)) None ≡ Some i
        → (position_or_len q xs ≡ i) × (position_or_len q xs < length xs)
    by true within is = (cc, ltb-true _ _ within)
    by false past is = cc

none-passes : (q : ℕ → Bool) (xs : List ℕ) → length xs ≤ position_or_len q xs → list_any q xs ≡ false
none-passes q [] past = refl
none-passes q (x ∷ xs) past = by (q x) past (none-passes q xs)
  where
    by : (b : Bool) → suc (length xs) ≤ (if not b then 1 + position_or_len q xs else 0)
        → (length xs ≤ position_or_len q xs → list_any q xs ≡ false) → (b || list_any q xs) ≡ false
    by true over rest = absurd (omega arith)
    by false over rest = rest (omega arith)

no-place : (q : ℕ → Bool) (xs : List ℕ) → position q xs ≡ None → list_any q xs ≡ false
no-place q xs = by (nat_lt (position_or_len q xs) (length xs)) refl
  where
    by : (b : Bool) → nat_lt (position_or_len q xs) (length xs) ≡ b → cond b (Some (position_or_len q xs)) None ≡ None
        → list_any q xs ≡ false
    by true within is = cc
    by false past is = none-passes q xs (ltb-false _ _ past)

module _ (places : List ℕ) (n p : ℕ) (within : n < length places) (there : p ≡ get_or places n 0) where
  abbrev before : ℕ → List ℕ
  before t = places_from 0 t (take n places)

  abbrev after : ℕ → List ℕ
  after t = places_from 0 t (take (n + 1) places)

  one-more : (t : ℕ) → after t ≡ (if p == t then before t ++ n ∷ [] else before t)
  one-more t =
      let next : take (n + 1) places ≡ take n places ++ p ∷ [] = take_more places n 0 within ∙ ap (λ x. take n places ++ x ∷ []) (sym there) in
      let taken : length (take n places) ≡ n = length-take-le n places (omega arith) in
      let count : 0 + length (take n places) ≡ n = omega (arith, taken) in
      ap (places_from 0 t) next
      ∙ places-push 0 t (take n places) p
      ∙ ap (λ k. if p == t then before t ++ k ∷ [] else before t) count

  one-same : (t : ℕ) → (p == t) ≡ false → after t ≡ before t
  one-same t other = one-more t ∙ ap (λ b. if b then before t ++ n ∷ [] else before t) other

  one-new : (t : ℕ) → (p == t) ≡ true → after t ≡ before p ++ n ∷ []
  one-new t same =
      one-more t
      ∙ ap (λ b. if b then before t ++ n ∷ [] else before t) same
      ∙ ap (λ u. before u ++ n ∷ []) (sym (eqb-true p t same))

  added : (targets : List ℕ) (lists : List (List ℕ)) (i : ℕ) → AreApart targets → lists ≡ map before targets
      → position (nat_eq p) targets ≡ Some i → set lists i (get_or lists i [] ++ n ∷ []) ≡ map after targets
  added targets lists i apart held found =
      let place = some-place (nat_eq p) targets i found in
      let some : i < length targets = subst (λ k. k < length targets) place.0 place.1 in
      let target : p ≡ get_or targets i p = eqb-true p _ (subst (λ k. nat_eq p (get_or targets k p) ≡ true) place.0 (passes_at_first (nat_eq p) targets p place.1)) in
      let old : get_or (map before targets) i [] ≡ before p = get_or-map before targets i p [] some ∙ ap before (sym target) in
      ap (λ l. set l i (get_or l i [] ++ n ∷ [])) held
      ∙ ap (λ l. set (map before targets) i (l ++ n ∷ [])) old
      ∙ ap (λ k. set (map before targets) k (before p ++ n ∷ [])) (sym place.0)
      ∙ sym (changed p before after one-same (before p ++ n ∷ []) one-new targets apart)

  -- the place is put to those of its target
  pub case-step : (targets : List ℕ) (lists : List (List ℕ)) → AreApart targets → lists ≡ map before targets
      → with_case (position (nat_eq p) targets) n lists ≡ map after targets
  case-step targets lists apart held = by (position (nat_eq p) targets) refl
    where
      by : (o : Option ℕ) → position (nat_eq p) targets ≡ o → with_case o n lists ≡ map after targets
      by None none = held ∙ sym (kept p before after one-same targets (no-place (nat_eq p) targets none))
      by (Some i) found = added targets lists i apart held found
