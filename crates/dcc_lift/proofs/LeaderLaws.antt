-- The offsets at which blocks begin, and their places.
use Rattle.std.proofs.Common.{◌≡◌, ◌≢◌, ◌⊎◌, inl, inr, ℕ, zero, suc, ◌+◌, ◌-◌, ◌≤◌, ◌<◌, not, ◌==◌, ◌&&◌, if◌then◌else◌, cond, nat_eq, nat_cmp, List, [], ◌∷◌, length, map, filter, take, drop, get_or, AllPairs, Some, Result, MatchResult, refl, sym, ap, ◌∙◌, subst, arith}
use Rattle.std.specs.List.Sorted.{IsStrictlyIncreasing, IsBinarySearchResult}
use Rattle.std.proofs.lemmas.Bool.{eq-eqb, ne_eqb, cases_eq, cases_lt}
use Rattle.std.proofs.lemmas.List.{take_all}
use Rattle.std.proofs.lemmas.List.Kept.{IsStrictlyIncreasing-filter, AllPairs-from_increasing}
use Rattle.std.proofs.lemmas.List.Sorted.{searched}
use Rattle.std.specs.Map.{lookup}
use Rattle.dcc_prog.specs.declared.procedure.Node.{Node}
use Rattle.dcc_lift.specs.Blocks.{Nodes, node_in, joins, leaders, place_in}

pub same-eqb : (a b : ℕ) → nat_eq a b ≡ (b == a)
same-eqb a b = by (cases_eq b a)
  where
    by : (b ≡ a) ⊎ (b ≡ a → ⊥) → nat_eq a b ≡ (b == a)
    by (inl e) = eq-eqb a b (sym e) ∙ sym (eq-eqb b a e)
    by (inr ne) = ne_eqb a b (λ e. ne (sym e)) ∙ sym (ne_eqb b a ne)

-- a look-up finds the instruction at an offset
pub node_from_lookup : (nodes : Nodes) (at : ℕ) → lookup (nat_eq at) nodes ≡ node_in nodes at
node_from_lookup [] at = refl
node_from_lookup (first ∷ nodes) at =
    ap (λ b. cond b (Some first.1) (lookup (nat_eq at) nodes)) (same-eqb at first.0)
    ∙ ap (λ rest. if first.0 == at then Some first.1 else rest) (node_from_lookup nodes at)

-- ascending instructions have ascending offsets
get_or-offset : (nodes : Nodes) (k : ℕ) (d : ℕ × Node) → k < length nodes
    → get_or (map (λ (found : ℕ × Node). found.0) nodes) k 0 ≡ (get_or nodes k d).0
get_or-offset [] k d l = absurd (omega arith)
get_or-offset (first ∷ nodes) zero d l = refl
get_or-offset (first ∷ nodes) (suc k) d l = get_or-offset nodes k d (omega arith)

length-offsets : (nodes : Nodes) → length (map (λ (found : ℕ × Node). found.0) nodes) ≡ length nodes
length-offsets [] = refl
length-offsets (first ∷ nodes) = ap suc (length-offsets nodes)

increasing-below : (nodes : Nodes) → AllPairs (λ (a b : ℕ × Node). a.0 < b.0) nodes → (k : ℕ) (d : ℕ × Node)
    → k + 1 < length nodes
    → get_or (map (λ (found : ℕ × Node). found.0) nodes) k 0 < get_or (map (λ (found : ℕ × Node). found.0) nodes)
    (k + 1) 0
increasing-below nodes pairs k d l =
    let one = get_or-offset nodes k d (omega arith) in
    let two = get_or-offset nodes (k + 1) d l in
    let less = pairs k (k + 1) d (omega arith) l in
    grind arith

pub increasing_offsets : (nodes : Nodes) → AllPairs (λ (a b : ℕ × Node). a.0 < b.0) nodes
    → IsStrictlyIncreasing (map (λ (found : ℕ × Node). found.0) nodes)
increasing_offsets [] pairs k l = absurd (omega arith)
increasing_offsets (first ∷ nodes) pairs k l =
    increasing-below (first ∷ nodes) pairs k first (omega (arith, length-offsets (first ∷ nodes), l))

-- the offsets at which the other blocks begin
abbrev pub others : Nodes → ℕ → List ℕ
others nodes start = filter (λ at. not (at == start) && not (joins nodes start at)) (map (λ found. found.0) nodes)

pub increasing_others : (nodes : Nodes) (start : ℕ) → IsStrictlyIncreasing (map (λ (found : ℕ × Node). found.0) nodes)
    → IsStrictlyIncreasing (others nodes start)
increasing_others nodes start rises =
    IsStrictlyIncreasing-filter (λ at. not (at == start) && not (joins nodes start at))
    (map (λ (found : ℕ × Node). found.0) nodes) rises

-- increasing numbers are no fewer than the greatest of them and one
no-fewer : (xs : List ℕ) → IsStrictlyIncreasing xs → (k : ℕ) → k < length xs → k ≤ get_or xs k 0
no-fewer xs rises zero l = omega arith
no-fewer xs rises (suc k) l =
    let before = no-fewer xs rises k (omega arith) in
    let more : get_or xs k 0 < get_or xs (suc k) 0 =
    subst (λ n. get_or xs k 0 < get_or xs n 0) (omega arith) (rises k (omega arith)) in
    omega arith

few : (xs : List ℕ) (n : ℕ) → ((k : ℕ) → k < n → k ≤ get_or xs k 0) → ((k : ℕ) → get_or xs k 0 < 65536) → n ≤ 65536
few xs zero rises fits = omega arith
few xs (suc n) rises fits = omega (arith, rises n (omega arith), fits n)

pub few_increasing : (xs : List ℕ) → IsStrictlyIncreasing xs → ((k : ℕ) → get_or xs k 0 < 65536) → length xs ≤ 65536
few_increasing xs rises fits = few xs (length xs) (λ k l. no-fewer xs rises k l) fits

-- the place of a number
place-first : (xs : List ℕ) (at i : ℕ) → i < length xs → get_or xs i 0 ≡ at → ((k : ℕ) → k < i → get_or xs k 0 ≢ at)
    → place_in xs at ≡ i
place-first [] at i l e first = absurd (omega arith)
place-first (x ∷ xs) at zero l e first = ap (λ b. if b then 0 else suc (place_in xs at)) (eq-eqb x at e)
place-first (x ∷ xs) at (suc i) l e first =
    ap (λ b. if b then 0 else suc (place_in xs at)) (ne_eqb x at (first 0 (omega arith)))
    ∙ ap suc (place-first xs at i (omega arith) e (λ k m. first (suc k) (omega arith)))

place-none : (xs : List ℕ) (at : ℕ) → ((k : ℕ) → k < length xs → get_or xs k 0 ≢ at) → place_in xs at ≡ length xs
place-none [] at none = refl
place-none (x ∷ xs) at none =
    ap (λ b. if b then 0 else suc (place_in xs at)) (ne_eqb x at (none 0 (omega arith)))
    ∙ ap suc (place-none xs at (λ k l. none (suc k) (omega arith)))

never-falls : (xs : List ℕ) → IsStrictlyIncreasing xs → (i j : ℕ) → i ≤ j → j < length xs
    → get_or xs i 0 ≤ get_or xs j 0
never-falls xs rises i j le l = by (cases_eq i j)
  where
    by : (i ≡ j) ⊎ (i ≡ j → ⊥) → get_or xs i 0 ≤ get_or xs j 0
    by (inl e) = let same : get_or xs i 0 ≡ get_or xs j 0 = ap (λ k. get_or xs k 0) e in omega arith
    by (inr ne) = let below = AllPairs-from_increasing xs rises i j 0 (omega (arith, ne)) l in omega arith

-- what a binary search among increasing numbers finds is the place of the number
pub searched_place : (xs : List ℕ) (at : ℕ) (r : Result ℕ ℕ) → IsStrictlyIncreasing xs
    → IsBinarySearchResult (λ y. nat_cmp y at) xs r
    → MatchResult r (λ i. place_in xs at ≡ i) (λ i. place_in xs at ≡ length xs)
searched_place xs at r rises found = by r (searched xs at r found (never-falls xs rises))
  where
    apart : (i k : ℕ) → ((k : ℕ) → k < i → get_or xs k 0 < at)
        → ((k : ℕ) → i ≤ k → k < length xs → at < get_or xs k 0) → k < length xs → get_or xs k 0 ≡ at
        → (k < i) ⊎ (i ≤ k) → ⊥
    apart i k below above l e (inl less) = let h = below k less in omega arith
    apart i k below above l e (inr more) = let h = above k more l in omega arith

    by : (r : Result ℕ ℕ) → MatchResult r (λ i. (i < length xs) × (get_or xs i 0 ≡ at))
        (λ i. (i ≤ length xs) × ((k : ℕ) → k < i → get_or xs k 0 < at)
        × ((k : ℕ) → i ≤ k → k < length xs → at < get_or xs k 0))
        → MatchResult r (λ i. place_in xs at ≡ i) (λ i. place_in xs at ≡ length xs)
    by (Result.Ok i) h = place-first xs at i h.0 h.1
        (λ k l e. let below = AllPairs-from_increasing xs rises k i 0 l h.0 in omega (arith, e, h.1))
    by (Result.Err i) h = place-none xs at (λ k l e. apart i k h.1 h.2 l e (cases_lt k i))

-- all but the first
pub but_first : (xs : List ℕ) (x : ℕ) (rest : List ℕ) → xs ≡ x ∷ rest → take (length xs - 1) (drop 1 xs) ≡ rest
but_first xs x rest e =
    subst (λ ys. take (length ys - 1) (drop 1 ys) ≡ rest) (sym e)
    (take_all (length (x ∷ rest) - 1) rest (omega arith))

pub place_first : (nodes : Nodes) (entry at : ℕ) → at ≡ entry → place_in (leaders nodes entry) at ≡ 0
place_first nodes entry at e =
    ap (λ b. if b then 0 else suc (place_in (others nodes entry) at)) (eq-eqb entry at (sym e))

pub place_later : (nodes : Nodes) (entry at : ℕ) → at ≢ entry
    → place_in (leaders nodes entry) at ≡ suc (place_in (others nodes entry) at)
place_later nodes entry at ne =
    ap (λ b. if b then 0 else suc (place_in (others nodes entry) at)) (ne_eqb entry at (λ e. ne (sym e)))
