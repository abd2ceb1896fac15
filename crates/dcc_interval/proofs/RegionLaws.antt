-- Laws of regions: each is entered at its node alone, so that no two nodes are in the regions of each other.
use Rattle.std.proofs.Common.{◌≡◌, ℕ, zero, suc, ◌<◌, Bool, true, ◌⊎◌, inl, inr, refl, sym, ◌∙◌, subst, arith}
use Rattle.dcc_interval.specs.Graphs.{IsReached, at_entry, along}
use Rattle.dcc_interval.specs.Intervals.{InInterval, itself, follows}
use Rattle.dcc_interval.specs.Reduction.{InRegion, own, joins, holds, in_one, in_other, IsLedBackTo}
use Rattle.dcc_interval.proofs.IntervalLaws.{before_it}

module _ (edge : ℕ → ℕ → Bool) (entry : ℕ) where
  pub region_reached : {a n : ℕ} → IsReached edge entry a → InRegion edge entry a n → IsReached edge entry n
  region_reached r own = r
  region_reached r (joins off i e each) = along (region_reached r i) e
  region_reached r (holds i j) = region_reached (region_reached r i) j

  -- a node of a region other than its own node has an edge to it from the region
  pub came : {a n : ℕ} → InRegion edge entry a n → (a ≡ n) ⊎ ((m : ℕ) × InRegion edge entry a m × (edge m n ≡ true))
  came own = inl refl
  came (joins {m = m} off i e each) = inr (m, i, e)
  came (holds {region = a} {k = k} {n = n} i j) = elim (came j) [
    | inl e ↦ subst (λ x. (a ≡ x) ⊎ ((m : ℕ) × InRegion edge entry a m × (edge m x ≡ true))) e (came i)
    | inr t ↦ inr (t.0, holds i t.1, t.2)
  ]

  -- the interval of a node is part of its region
  pub interval_region : {h n : ℕ} → InInterval edge entry h n → InRegion edge entry h n
  interval_region itself = own
  interval_region (follows off reached before) =
      let m = before_it edge entry reached off in
      joins off (interval_region (before m.0 m.1 m.2)) m.2 (λ k r e. in_one (interval_region (before k r e)))

  -- Ways to a node, by the number of their edges.

  -- the node is reached by so many edges
  abbrev reached_by : ℕ → ℕ → Type 0
  reached_by zero n = n ≡ entry
  reached_by (suc k) n = (m : ℕ) × reached_by k m × (edge m n ≡ true)

module _ (edge : ℕ → ℕ → Bool) (entry : ℕ) where
  some_way : {n : ℕ} → IsReached edge entry n → (k : ℕ) × reached_by edge entry k n
  some_way at_entry = (0, refl)
  some_way (along {m = m} r e) = let before = some_way r in (suc before.0, (m, before.1, e))

  by_way : (k n : ℕ) → reached_by edge entry k n → IsReached edge entry n
  by_way zero n r = subst (IsReached edge entry) (sym r) at_entry
  by_way (suc k) n r = along (by_way k r.0 r.1) r.2

  last_edge : (k n : ℕ) → ¬ (n ≡ entry) → reached_by edge entry k n → (j : ℕ) × (m : ℕ) × (j < k) × reached_by edge entry j m × (edge m n ≡ true)
  last_edge zero n off r = absurd (off r)
  last_edge (suc k) n off r = (k, r.0, omega arith, r.1, r.2)

  -- the way comes by the node before
  abbrev Passed : ℕ → ℕ → ℕ → Type 0
  Passed k a b = (a ≡ b) ⊎ ((j : ℕ) × (j < k) × reached_by edge entry j a)

module _ (edge : ℕ → ℕ → Bool) (entry : ℕ) (k : ℕ)
    (before : (j : ℕ) → j < k → (a b : ℕ) → InRegion edge entry a b → reached_by edge entry j b → Passed edge entry j a b) where
  -- a way that came by a node came by each before that
  on : (a b : ℕ) → (j : ℕ) → j < k → InRegion edge entry a b → reached_by edge entry j b → (i : ℕ) × (i < k) × reached_by edge entry i a
  on a b j less i r = elim (before j less a b i r) [
    | inl e ↦ (j, less, subst (reached_by edge entry j) (sym e) r)
    | inr t ↦ (t.0, omega (arith, less, t.1), t.2)
  ]

  passes_here : {a b : ℕ} → InRegion edge entry a b → reached_by edge entry k b → Passed edge entry k a b
  passes_here own r = inl refl
  passes_here (joins {region = a} {m = m} {n = b} off i e each) r =
      let last = last_edge edge entry k b off r in
      elim (each last.1 (by_way edge entry last.0 last.1 last.3) last.4) [
        | in_one s ↦ inr (on a last.1 last.0 last.2 s last.3)
        | in_other s ↦
            let again = on b last.1 last.0 last.2 s last.3 in
            inr (on a b again.0 again.1 (joins off i e each) again.2)
      ]
  passes_here (holds {region = a} {k = c} {n = b} i j) r = elim (passes_here j r) [
    | inl e ↦ elim (passes_here i (subst (reached_by edge entry k) (sym e) r)) [ inl f ↦ inl (f ∙ e) | inr t ↦ inr t ]
    | inr t ↦ inr (on a c t.0 t.1 i t.2)
  ]

module _ (edge : ℕ → ℕ → Bool) (entry : ℕ) where
  -- each way to a node of a region comes by the region's node
  passed_below : (bound k : ℕ) → k < bound → (a b : ℕ) → InRegion edge entry a b → reached_by edge entry k b → Passed edge entry k a b
  passed_below zero k less a b i r = absurd (omega (arith, less))
  passed_below (suc bound) k less a b i r = passes_here edge entry k (λ j fewer c d s t. passed_below bound j (omega (arith, less, fewer)) c d s t) i r

  passed : (k a b : ℕ) → InRegion edge entry a b → reached_by edge entry k b → Passed edge entry k a b
  passed k a b i r = passed_below (suc k) k (omega arith) a b i r

  both_below : (bound k : ℕ) → k < bound → (a b : ℕ) → InRegion edge entry a b → InRegion edge entry b a → reached_by edge entry k b → a ≡ b
  both_below zero k less a b i j r = absurd (omega (arith, less))
  both_below (suc bound) k less a b i j r = elim (passed k a b i r) [
    | inl e ↦ e
    | inr t ↦ elim (passed t.0 b a j t.2) [
      | inl e ↦ sym e
      | inr u ↦ both_below bound u.0 (omega (arith, less, t.1, u.1)) a b i j u.2
    ]
  ]

  -- no two nodes are in the regions of each other
  pub one_region : {a b : ℕ} → IsReached edge entry b → InRegion edge entry a b → InRegion edge entry b a → a ≡ b
  one_region {a = a} {b = b} reached i j =
      let way = some_way edge entry reached in
      both_below (suc way.0) way.0 (omega arith) a b i j way.1

  -- no edge leads from its own region to a node of an interval other than the header
  pub no_way_back : (h n : ℕ) → InRegion edge entry h n → ¬ (n ≡ h) → IsLedBackTo edge entry n → {y : ℕ} → InInterval edge entry h y → InRegion edge entry n y → ⊥
  no_way_back h n inside off back itself i = off (sym (one_region back.reached inside i))
  no_way_back h n inside off back (follows {n = y} no_entry reached before) i = elim (came edge entry i) [
    | inl e ↦
        let from = region_reached edge entry back.reached back.inside in
        no_way_back h n inside off back (before back.from from (subst (λ x. edge back.from x ≡ true) e back.leads_back)) back.inside
    | inr t ↦ no_way_back h n inside off back (before t.0 (region_reached edge entry back.reached t.1) t.2) t.1
  ]
