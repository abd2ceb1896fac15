-- The blocks of a graph begin at addresses of their own.
use Rattle.std.proofs.Common.{◌≡◌, ℕ, Bool, true, false, not, ◌&&◌, ◌||◌, ◌==◌, if◌then◌else◌, List, [], ◌∷◌, map, filter, refl, sym, ap, ◌∙◌, true≢false, eq-eqb, ne_eqb}
use Rattle.std.specs.List.{list_any}
use Rattle.dcc_prog.specs.declared.procedure.Node.{Node}
use Rattle.dcc_ir.specs.WellFormed.{all_differ}
use Rattle.dcc_lift.specs.Blocks.{Nodes, leaders, joins}
use Rattle.dcc_lift.proofs.ListTests.{and_left, and_right, and_both, any_map}
use Rattle.dcc_lift.proofs.NodeLaws.{Differ}

pub no-true : (b : Bool) → not b ≡ true → b ≡ false
no-true true e = absurd (true≢false (sym e))
no-true false e = refl

pub flipped : (a : ℕ) (xs : List ℕ) → list_any (λ m. m == a) xs ≡ false → list_any (λ m. a == m) xs ≡ false
flipped a [] none = refl
flipped a (x ∷ xs) none = go (x == a) refl none (λ rest. flipped a xs rest)
  where
    go : (b : Bool) → (x == a) ≡ b → (b || list_any (λ m. m == a) xs) ≡ false
        → (list_any (λ m. m == a) xs ≡ false → list_any (λ m. a == m) xs ≡ false)
        → ((a == x) || list_any (λ m. a == m) xs) ≡ false
    go true same e later = absurd (true≢false e)
    go false other e later =
        ap (λ c. c || list_any (λ m. a == m) xs)
        (ne_eqb a x (λ same. true≢false (sym (eq-eqb x a (sym same)) ∙ other)))
        ∙ later e

differ-offsets : (nodes : Nodes) → Differ nodes → all_differ (map (λ found. found.0) nodes) ≡ true
differ-offsets [] differ = refl
differ-offsets (found ∷ nodes) differ =
    and_both (not (list_any (λ m. found.0 == m) (map (λ found. found.0) nodes)))
    (all_differ (map (λ found. found.0) nodes))
    (ap not (flipped found.0 (map (λ found. found.0) nodes)
    (any_map (λ m. m == found.0) (λ (f : ℕ × Node). f.0) nodes ∙ differ.0)))
    (differ-offsets nodes differ.1)

kept-none : (test : ℕ → Bool) (a : ℕ) (xs : List ℕ) → list_any (λ m. a == m) xs ≡ false
    → list_any (λ m. a == m) (filter test xs) ≡ false
kept-none test a [] none = refl
kept-none test a (x ∷ xs) none = go (a == x) (test x) none (λ rest. kept-none test a xs rest) refl
  where
    go : (b t : Bool) → (b || list_any (λ m. a == m) xs) ≡ false
        → (list_any (λ m. a == m) xs ≡ false → list_any (λ m. a == m) (filter test xs) ≡ false)
        → (a == x) ≡ b
        → list_any (λ m. a == m) (if t then x ∷ filter test xs else filter test xs) ≡ false
    go true t e later same = absurd (true≢false e)
    go false true e later same = ap (λ c. c || list_any (λ m. a == m) (filter test xs)) same ∙ later e
    go false false e later same = later e

kept-differ : (test : ℕ → Bool) (xs : List ℕ) → all_differ xs ≡ true → all_differ (filter test xs) ≡ true
kept-differ test [] differ = refl
kept-differ test (x ∷ xs) differ =
    go (test x)
    (no-true (list_any (λ m. x == m) xs) (and_left (not (list_any (λ m. x == m) xs)) (all_differ xs) differ))
    (kept-differ test xs (and_right (not (list_any (λ m. x == m) xs)) (all_differ xs) differ))
  where
    go : (t : Bool) → list_any (λ m. x == m) xs ≡ false → all_differ (filter test xs) ≡ true
        → all_differ (if t then x ∷ filter test xs else filter test xs) ≡ true
    go true none later =
        and_both (not (list_any (λ m. x == m) (filter test xs))) (all_differ (filter test xs))
        (ap not (kept-none test x xs none)) later
    go false none later = later

-- the entry isn't among the others
entry-apart : (nodes : Nodes) (entry : ℕ) (xs : List ℕ)
    → list_any (λ m. entry == m) (filter (λ at. not (at == entry) && not (joins nodes entry at)) xs) ≡ false
entry-apart nodes entry [] = refl
entry-apart nodes entry (x ∷ xs) = go (x == entry) (joins nodes entry x) refl (entry-apart nodes entry xs)
  where
    abbreviated : List ℕ
    abbreviated = filter (λ at. not (at == entry) && not (joins nodes entry at)) xs

    go : (b j : Bool) → (x == entry) ≡ b → list_any (λ m. entry == m) abbreviated ≡ false
        → list_any (λ m. entry == m) (if not b && not j then x ∷ abbreviated else abbreviated) ≡ false
    go true j same later = later
    go false true same later = later
    go false false same later =
        ap (λ c. c || list_any (λ m. entry == m) abbreviated)
        (ne_eqb entry x (λ e. true≢false (sym (eq-eqb x entry (sym e)) ∙ same)))
        ∙ later

pub leaders-differ : (nodes : Nodes) (entry : ℕ) → Differ nodes → all_differ (leaders nodes entry) ≡ true
leaders-differ nodes entry differ =
    let offsets = map (λ found. found.0) nodes in
    let test : ℕ → Bool = λ at. not (at == entry) && not (joins nodes entry at) in
    and_both (not (list_any (λ m. entry == m) (filter test offsets))) (all_differ (filter test offsets))
    (ap not (entry-apart nodes entry offsets)) (kept-differ test offsets (differ-offsets nodes differ))
