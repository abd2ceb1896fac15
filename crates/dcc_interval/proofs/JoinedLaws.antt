-- Laws of regions as they are joined: what a joining keeps, and what is left where no region may be joined any more.
use Rattle.std.proofs.Common.{◌≡◌, ℕ, Bool, true, false, ◌⊎◌, ◌↔◌, inl, inr, refl, sym, ap, ◌∙◌, subst}
use Rattle.std.specs.Prelude.{◌==◌, if◌then◌else◌}
use Rattle.std.proofs.lemmas.Bool.{cases_eq, eq-eqb, ne_eqb}
use Rattle.dcc_interval.specs.Graphs.{IsReached, at_entry, along}
use Rattle.dcc_interval.specs.Reduction.{InRegion, own, joins, holds, InEither, in_one, in_other, IsLedBackTo, HasAll, IsReduced}
use Rattle.dcc_interval.specs.Reducing.{joined_at, MayJoin, HasEdgeBack, AreJoined, IsDone}
use Rattle.dcc_interval.proofs.RegionLaws.{region_reached, one_region}

module _ (edge : ℕ → ℕ → Bool) (entry : ℕ) where
  -- At first each node is a region, and none is marked.
  pub joined_first : (at : ℕ → ℕ) (is_marked : ℕ → Bool) → ((n : ℕ) → IsReached edge entry n → at n ≡ n) → ((n : ℕ) → is_marked n ≡ false) → AreJoined edge entry at is_marked
  joined_first at is_marked alone none = record {
    first = alone entry at_entry;
    reached = λ n r. subst (IsReached edge entry) (sym (alone n r)) r;
    inside = λ n r. subst (λ x. InRegion edge entry x n) (sym (alone n r)) own;
    own = λ n r. ap at (alone n r);
    closed = λ m n r s off e. absurd (off (alone n s));
    marked = λ n r off. absurd (off (alone n r));
    only = λ n t. absurd (true_not_false (sym t ∙ none n));
  }
    where
      true_not_false : true ≡ false → ⊥
      true_not_false e = cc

  -- A node in its own region is marked, or not.
  pub joined_marked : (at : ℕ → ℕ) (is_marked now : ℕ → Bool) → AreJoined edge entry at is_marked → (x : ℕ) → IsReached edge entry x → at x ≡ x
      → ((n : ℕ) → ¬ (n ≡ x) → now n ≡ is_marked n) → AreJoined edge entry at now
  joined_marked at is_marked now are x reached is same = record {
    first = are.first;
    reached = are.reached;
    inside = are.inside;
    own = are.own;
    closed = are.closed;
    marked = λ n r off. subst (λ b. (b ≡ true) ↔ IsLedBackTo edge entry n) (sym (same n (λ e. off (subst (λ k. at k ≡ k) (sym e) is)))) (are.marked n r off);
    only = λ n t. elim (cases_eq n x) [
      | inl e ↦ subst (IsReached edge entry) (sym e) reached
      | inr o ↦ are.only n (sym (same n o) ∙ t)
    ];
  }

  -- Only the regions of reached nodes count.
  pub joined_same : (at now : ℕ → ℕ) (is_marked : ℕ → Bool) → ((n : ℕ) → IsReached edge entry n → now n ≡ at n) → AreJoined edge entry at is_marked → AreJoined edge entry now is_marked
  joined_same at now is_marked same are = record {
    first = same entry at_entry ∙ are.first;
    reached = λ n r. subst (IsReached edge entry) (sym (same n r)) (are.reached n r);
    inside = λ n r. subst (λ k. InRegion edge entry k n) (sym (same n r)) (are.inside n r);
    own = λ n r. ap now (same n r) ∙ same (at n) (are.reached n r) ∙ are.own n r ∙ sym (same n r);
    closed = λ m n r s off e. same m r ∙ are.closed m n r s (λ t. off (same n s ∙ t)) e ∙ sym (same n s);
    marked = λ n r off. are.marked n r (λ t. off (same n r ∙ t));
    only = are.only;
  }

module _ (edge : ℕ → ℕ → Bool) (entry : ℕ) (at : ℕ → ℕ) (is_marked : ℕ → Bool) (are : AreJoined edge entry at is_marked) where
  -- Where a region has a node of another one, and not its own, it has the node of that one.
  walk : (y : ℕ) → {a n : ℕ} → InRegion edge entry a n → IsReached edge entry a → ¬ (at a ≡ y) → at n ≡ y → InRegion edge entry a y
  walk y own r out e = absurd (out e)
  walk y (joins {region = a} {m = m} {n = n} off i f each) r out e = elim (cases_eq (at n) n) [
    | inl same ↦ subst (InRegion edge entry a) (sym same ∙ e) (joins off i f each)
    | inr other ↦
        let from = region_reached edge entry r i in
        walk y i r out (are.closed m n from (along from f) other f ∙ e)
  ]
  walk y (holds {k = k} i j) r out e = elim (cases_eq (at k) y) [
    | inl there ↦ walk y i r out there
    | inr off ↦ holds i (walk y j (region_reached edge entry r i) off e)
  ]

  module _ (x y : ℕ) (reached : IsReached edge entry x) (is : at x ≡ x) (off : ¬ (x ≡ entry)) (may : MayJoin edge entry at x y) where
    name : at y ≡ y
    name = subst (λ k. at k ≡ k) may.comes (are.own may.from may.reached)

    reached_into : IsReached edge entry y
    reached_into = subst (IsReached edge entry) may.comes (are.reached may.from may.reached)

    into_region : InRegion edge entry y x
    into_region =
        joins off (subst (λ k. InRegion edge entry k may.from) may.comes (are.inside may.from may.reached)) may.leads_there (λ k r e. elim (may.each k r e) [
          | inl t ↦ in_other (subst (λ n. InRegion edge entry n k) t (are.inside k r))
          | inr t ↦ in_one (subst (λ n. InRegion edge entry n k) t (are.inside k r))
        ])

    now_is : (n : ℕ) → at n ≡ x → joined_at at x y n ≡ y
    now_is n e = ap (λ b. if b then y else at n) (eq-eqb (at n) x e)

    now_not : (n : ℕ) → ¬ (at n ≡ x) → joined_at at x y n ≡ at n
    now_not n o = ap (λ b. if b then y else at n) (ne_eqb (at n) x o)

    -- no region of its own any more
    pub gone : ¬ (joined_at at x y x ≡ x)
    gone e = may.apart (sym (now_is x is) ∙ e)

    -- a node in its own region was in its own
    pub was_own : (n : ℕ) → IsReached edge entry n → joined_at at x y n ≡ n → at n ≡ n
    was_own n r e = elim (cases_eq (at n) x) [
      | inl t ↦
          let is_into : n ≡ y = sym e ∙ now_is n t in
          subst (λ k. at k ≡ k) (sym is_into) name
      | inr o ↦ sym (now_not n o) ∙ e
    ]

    -- an edge to the node from its own region comes from where it is looked for
    led_back : IsLedBackTo edge entry x → HasEdgeBack edge entry at x
    led_back back =
        let from = region_reached edge entry back.reached back.inside in
        elim (may.each back.from from back.leads_back) [
          | inl t ↦ (back.from, from, back.leads_back, t)
          | inr t ↦
              let round = walk y back.inside reached (λ e. may.apart (sym e ∙ is)) t in
              absurd (may.apart (one_region edge entry reached into_region round))
        ]

    pub joined_on : (is_marked x ≡ true) ↔ HasEdgeBack edge entry at x → AreJoined edge entry (joined_at at x y) is_marked
    joined_on back = record {
      first = now_not entry (λ e. off (sym e ∙ are.first)) ∙ are.first;
      reached = λ n r. elim (cases_eq (at n) x) [
        | inl e ↦ subst (IsReached edge entry) (sym (now_is n e)) reached_into
        | inr o ↦ subst (IsReached edge entry) (sym (now_not n o)) (are.reached n r)
      ];
      inside = λ n r. elim (cases_eq (at n) x) [
        | inl e ↦ subst (λ k. InRegion edge entry k n) (sym (now_is n e)) (holds into_region (subst (λ k. InRegion edge entry k n) e (are.inside n r)))
        | inr o ↦ subst (λ k. InRegion edge entry k n) (sym (now_not n o)) (are.inside n r)
      ];
      own = λ n r. elim (cases_eq (at n) x) [
        | inl e ↦ subst (λ k. joined_at at x y k ≡ k) (sym (now_is n e)) (now_not y (λ t. may.apart (sym name ∙ t)) ∙ name)
        | inr o ↦ subst (λ k. joined_at at x y k ≡ k) (sym (now_not n o)) (now_not (at n) (λ t. o (sym (are.own n r) ∙ t)) ∙ are.own n r)
      ];
      closed = λ m n r s other e. elim (cases_eq n x) [
        | inl t ↦
            let there : joined_at at x y n ≡ y = now_is n (ap at t ∙ is) in
            elim (may.each m r (subst (λ k. edge m k ≡ true) t e)) [
              | inl u ↦ now_is m u ∙ sym there
              | inr u ↦ now_not m (λ v. may.apart (sym u ∙ v)) ∙ u ∙ sym there
            ]
        | inr o ↦ ap (λ k. if k == x then y else k) (are.closed m n r s (λ t. other (now_not n (λ u. o (sym t ∙ u)) ∙ t)) e)
      ];
      marked = λ n r other. elim (cases_eq n x) [
        | inl t ↦ subst (λ k. (is_marked k ≡ true) ↔ IsLedBackTo edge entry k) (sym t) (
          λ h.
              let from = back.0 h in
              record { reached = reached; from = from.0; inside = subst (λ k. InRegion edge entry k from.0) from.3 (are.inside from.0 from.1); leads_back = from.2 },
          λ h. back.1 (led_back h),
        )
        | inr o ↦ are.marked n r (λ t. other (now_not n (λ u. o (sym t ∙ u)) ∙ t))
      ];
      only = are.only;
    }

  -- Where no region may be joined any more, the region of a node has all that it may.

  module _ (done : (n : ℕ) → IsReached edge entry n → at n ≡ n → IsDone edge entry at is_marked n) where
    mutual
      whole : {a n : ℕ} → InRegion edge entry a n → IsReached edge entry a → at n ≡ at a
      whole own r = refl
      whole (joins {region = a} {m = m} {n = n} off i e each) r =
          let from = region_reached edge entry r i in
          let reached = along from e in
          let before = whole i r in
          elim (cases_eq (at n) n) [
            | inr other ↦ sym (are.closed m n from reached other e) ∙ before
            | inl is ↦ elim (cases_eq (at a) n) [
              | inl there ↦ is ∙ sym there
              | inr apart ↦ absurd ((done n reached is).stuck off (at a) (record {
                apart = apart;
                from = m;
                reached = from;
                leads_there = e;
                comes = before;
                each = λ k s f. elim (either (each k s f) r reached) [
                  | inl t ↦ inr t
                  | inr t ↦ inl (t ∙ is)
                ];
              }))
            ]
          ]
      whole (holds i j) r = whole j (region_reached edge entry r i) ∙ whole i r

      either : {a b n : ℕ} → InEither edge entry a b n → IsReached edge entry a → IsReached edge entry b → (at n ≡ at a) ⊎ (at n ≡ at b)
      either (in_one i) r t = inl (whole i r)
      either (in_other i) r t = inr (whole i t)

    headers_are : (n : ℕ) → (is_marked n ≡ true) ↔ IsLedBackTo edge entry n
    headers_are n = (
      λ h.
          let r = are.only n h in
          elim (cases_eq (at n) n) [
            | inl is ↦
                let from = (done n r is).marked.0 h in
                record { reached = r; from = from.0; inside = subst (λ k. InRegion edge entry k from.0) from.3 (are.inside from.0 from.1); leads_back = from.2 }
            | inr other ↦ (are.marked n r other).0 h
          ],
      λ back.
          let from = region_reached edge entry back.reached back.inside in
          elim (cases_eq (at n) n) [
            | inl is ↦ (done n back.reached is).marked.1 (back.from, from, back.leads_back, whole back.inside back.reached ∙ is)
            | inr other ↦ (are.marked n back.reached other).1 back
          ],
    )

    pub reduced : (one : Bool) → (one ≡ true) ↔ ((n : ℕ) → IsReached edge entry n → at n ≡ entry) → IsReduced edge entry is_marked one
    reduced one is = record {
      headers = headers_are;
      one = (
        λ h n r. subst (λ k. InRegion edge entry k n) (is.0 h n r) (are.inside n r),
        λ has. is.1 (λ n r. whole (has n r) at_entry ∙ are.first),
      );
    }

-- Graphs with the same edges from what is reached have the same regions.

module _ (edge edge' : ℕ → ℕ → Bool) (entry : ℕ) (same : (m n : ℕ) → IsReached edge entry m → edge m n ≡ edge' m n) where
  pub reached_over : {n : ℕ} → IsReached edge entry n → IsReached edge' entry n
  reached_over at_entry = at_entry
  reached_over (along {m = m} {n = n} r e) = along (reached_over r) (sym (same m n r) ∙ e)

  pub reached_back : {n : ℕ} → IsReached edge' entry n → IsReached edge entry n
  reached_back at_entry = at_entry
  reached_back (along {m = m} {n = n} r e) = let before = reached_back r in along before (same m n before ∙ e)

  mutual
    region_over : {a n : ℕ} → InRegion edge entry a n → IsReached edge entry a → InRegion edge' entry a n
    region_over own r = own
    region_over (joins {m = m} {n = n} off i e each) r =
        let from = region_reached edge entry r i in
        joins off (region_over i r) (sym (same m n from) ∙ e) (λ k s f.
        let there = reached_back s in
        either_over (each k there (same k n there ∙ f)) r (along from e))
    region_over (holds i j) r = holds (region_over i r) (region_over j (region_reached edge entry r i))

    either_over : {a b n : ℕ} → InEither edge entry a b n → IsReached edge entry a → IsReached edge entry b → InEither edge' entry a b n
    either_over (in_one i) r t = in_one (region_over i r)
    either_over (in_other i) r t = in_other (region_over i t)

  led_over : {n : ℕ} → IsLedBackTo edge entry n → IsLedBackTo edge' entry n
  led_over {n = n} back = record {
    reached = reached_over back.reached;
    from = back.from;
    inside = region_over back.inside back.reached;
    leads_back = sym (same back.from n (region_reached edge entry back.reached back.inside)) ∙ back.leads_back;
  }

  all_over : HasAll edge entry → HasAll edge' entry
  all_over has n r = region_over (has n (reached_back r)) at_entry

module _ (edge edge' : ℕ → ℕ → Bool) (entry : ℕ) (same : (m n : ℕ) → IsReached edge entry m → edge m n ≡ edge' m n) where
  turned : (m n : ℕ) → IsReached edge' entry m → edge' m n ≡ edge m n
  turned m n r = sym (same m n (reached_back edge edge' entry same r))

  pub reduced_over : (is_header : ℕ → Bool) (one : Bool) → IsReduced edge entry is_header one → IsReduced edge' entry is_header one
  reduced_over is_header one is = record {
    headers = λ n. (
      λ h. led_over edge edge' entry same ((is.headers n).0 h),
      λ back. (is.headers n).1 (led_over edge' edge entry turned back),
    );
    one = (
      λ h. all_over edge edge' entry same (is.one.0 h),
      λ has. is.one.1 (all_over edge' edge entry turned has),
    );
  }
