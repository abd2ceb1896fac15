-- Laws of a try to join a region.
use Rattle.std.proofs.Common.{◌≡◌, ℕ, ◌<◌, Bool, true, false, ◌&&◌, ◌||◌, not, ◌↔◌, inl, inr, List, [], ◌∷◌, length, get_or, slice_set, refl, sym, ap, ◌∙◌, subst, arith}
use Rattle.std.specs.Prelude.{◌==◌}
use Rattle.std.specs.List.{list_any, list_all}
use Rattle.std.specs.Global.{Vec}
use Rattle.std.proofs.lemmas.Bool.{false≢true, cases_lt, eqb-true, eq-eqb, ne_eqb, or_cases, or_left, or_right, and_parts, and_from, not-true, false_from_ne_true}
use Rattle.std.proofs.lemmas.List.{length-set, get_or_past, get_or-set_same, get_or-set_other}
use Rattle.dcc_flow.specs.Edges.{is_in}
use Rattle.dcc_flow.proofs.Members.{in_here, in_there, in_cases}
use Rattle.dcc_interval.specs.declared.regions.Regions.{Regions as RegionsOf}
use Rattle.dcc_interval.specs.declared.reduce.Joining.{Joining}
use Rattle.dcc_interval.specs.declared.reduce.Reducing.{Reducing as ReducingOf}
use Rattle.dcc_interval.specs.Graphs.{IsReached, at_entry, along}
use Rattle.dcc_interval.specs.Reducing.{regions_of, region_at, AreRegions, joined_at, MayJoin, HasEdgeBack, IsDone, comes_to, may_join, at_in, marked_in, IsReducing}
use Rattle.dcc_interval.proofs.GrowthLaws.{some_passes, passes_at}
use Rattle.dcc_interval.proofs.NumberLaws.{region_below}
use Rattle.dcc_interval.proofs.JoinedLaws.{joined_same, joined_marked, joined_on, gone, was_own}

-- Tests of lists.

pub each_passes : (p : ℕ → Bool) (ns : List ℕ) (n : ℕ) → list_all p ns ≡ true → is_in ns n ≡ true → p n ≡ true
each_passes p [] n h t = absurd (false≢true t)
each_passes p (m ∷ ns) n h t =
    let parts = and_parts (p m) (list_all p ns) h in
    elim (in_cases m n ns t) [ inl e ↦ subst (λ k. p k ≡ true) e parts.0 | inr u ↦ each_passes p ns n parts.1 u ]

pub all_pass : (p : ℕ → Bool) (ns : List ℕ) → ((n : ℕ) → is_in ns n ≡ true → p n ≡ true) → list_all p ns ≡ true
all_pass p [] h = refl
all_pass p (m ∷ ns) h = and_from (p m) (list_all p ns) (h m (in_here m ns)) (all_pass p ns (λ n t. h n (in_there m n ns t)))

module _ (at : ℕ → ℕ) (nodes : List ℕ) (region into : ℕ) where
  abbrev some_test : Bool
  some_test = list_any (λ m. at m == into) nodes

  abbrev each_test : Bool
  each_test = list_all (λ m. at m == region || at m == into) nodes

  pub may_parts : may_join at nodes region into ≡ true → ((into == region) ≡ false) × (some_test ≡ true) × (each_test ≡ true)
  may_parts h =
      let one = and_parts (not (into == region)) (some_test && each_test) h in
      let two = and_parts some_test each_test one.1 in
      (not-true (into == region) one.0, two.0, two.1)

  pub may_from : ¬ (into ≡ region) → some_test ≡ true → each_test ≡ true → may_join at nodes region into ≡ true
  may_from off some each = and_from (not (into == region)) (some_test && each_test) (ap not (ne_eqb into region off)) (and_from some_test each_test some each)

-- all edges come from the region itself
pub none_other : (at : ℕ → ℕ) (nodes : List ℕ) (region : ℕ) → list_all (λ m. at m == region) nodes ≡ true → (into : ℕ) → may_join at nodes region into ≡ false
none_other at nodes region all into = false_from_ne_true (may_join at nodes region into) (λ h.
    let parts = may_parts at nodes region into h in
    let m = some_passes (λ m. at m == into) nodes parts.1 in
    let is : at m.0 ≡ region = eqb-true (at m.0) region (each_passes (λ m. at m == region) nodes m.0 all m.1) in
    let there : at m.0 ≡ into = eqb-true (at m.0) into m.2 in
    false≢true (sym parts.0 ∙ eq-eqb into region (sym there ∙ is)))

-- an edge comes from another region, and not each from the two
pub more_others : (at : ℕ → ℕ) (nodes : List ℕ) (region other : ℕ) → ¬ (other ≡ region) → list_any (λ m. at m == other) nodes ≡ true
    → list_all (λ m. at m == region || at m == other) nodes ≡ false → (into : ℕ) → may_join at nodes region into ≡ false
more_others at nodes region other off some more into = false_from_ne_true (may_join at nodes region into) (λ h.
    let parts = may_parts at nodes region into h in
    let m = some_passes (λ m. at m == other) nodes some in
    let there : at m.0 ≡ other = eqb-true (at m.0) other m.2 in
    elim (or_cases (at m.0 == region) (at m.0 == into) (each_passes (λ m. at m == region || at m == into) nodes m.0 parts.2 m.1)) [
      | inl e ↦ off (sym there ∙ eqb-true (at m.0) region e)
      | inr e ↦
          let same : into ≡ other = sym (eqb-true (at m.0) into e) ∙ there in
          false≢true (sym more ∙ subst (λ k. list_all (λ m. at m == region || at m == k) nodes ≡ true) same parts.2)
    ])

-- Reached nodes.

pub below : (sources : List (List ℕ)) (entry : ℕ) → entry < length sources → {n : ℕ} → IsReached (comes_to sources) entry n → n < length sources
below sources entry inside at_entry = inside
below sources entry inside (along {m = m} {n = n} r e) = elim (cases_lt n (length sources)) [
  | inl less ↦ less
  | inr past ↦ absurd (false≢true (sym (ap (λ l. is_in l m) (get_or_past sources n [] past)) ∙ e))
]

-- a reached node is in its own region
pub record IsTry (sources : List (List ℕ)) (entry : ℕ) (r : ReducingOf) (node : ℕ) : Type 0 where
  pub inside : entry < length sources
  pub reducing : IsReducing sources entry r
  pub reached : IsReached (comes_to sources) entry node
  pub own : at_in r node ≡ node

-- its region was joined
pub record IsTried (sources : List (List ℕ)) (entry : ℕ) (r : ReducingOf) (node : ℕ) (now : ReducingOf) : Type 0 where
  pub reducing : IsReducing sources entry now
  pub gone : ¬ (at_in now node ≡ node)
  pub fewer : (n : ℕ) → IsReached (comes_to sources) entry n → at_in now n ≡ n → at_in r n ≡ n

module _ (sources : List (List ℕ)) (entry : ℕ) (r : ReducingOf) (node : ℕ) (given : IsTry sources entry r node) where
  inside : entry < length sources
  inside = given.inside

  h : IsReducing sources entry r
  h = given.reducing

  reached : IsReached (comes_to sources) entry node
  reached = given.reached

  own : at_in r node ≡ node
  own = given.own

  abbrev edge : ℕ → ℕ → Bool
  edge = comes_to sources

  abbrev nodes : List ℕ
  nodes = get_or sources node []

  -- the tests say what they are to

  may_is : (into : ℕ) → may_join (at_in r) nodes node into ≡ true → MayJoin edge entry (at_in r) node into
  may_is into t =
      let parts = may_parts (at_in r) nodes node into t in
      let m = some_passes (λ m. at_in r m == into) nodes parts.1 in
      record {
        apart = λ e. false≢true (sym parts.0 ∙ eq-eqb into node e);
        from = m.0;
        reached = h.listed m.0 node m.1;
        leads_there = m.1;
        comes = eqb-true (at_in r m.0) into m.2;
        each = λ k s e. elim (or_cases (at_in r k == node) (at_in r k == into) (each_passes (λ m. at_in r m == node || at_in r m == into) nodes k parts.2 e)) [
          | inl u ↦ inl (eqb-true (at_in r k) node u)
          | inr u ↦ inr (eqb-true (at_in r k) into u)
        ];
      }

  -- the other region is one
  pub into_is : (into : ℕ) → may_join (at_in r) nodes node into ≡ true → (into < length sources) × (at_in r into ≡ into)
  into_is into t =
      let may = may_is into t in
      let from = region_below (length sources) (regions_of r.regions) h.whole may.from (below sources entry inside may.reached) in
      (subst (λ k. k < length sources) may.comes from, subst (λ k. at_in r k ≡ k) may.comes (h.joined.own may.from may.reached))

  may_so : (into : ℕ) → MayJoin edge entry (at_in r) node into → may_join (at_in r) nodes node into ≡ true
  may_so into may =
      may_from (at_in r) nodes node into may.apart (passes_at (λ m. at_in r m == into) nodes may.from may.leads_there (eq-eqb (at_in r may.from) into may.comes))
      (all_pass (λ m. at_in r m == node || at_in r m == into) nodes (λ k e. elim (may.each k (h.listed k node e) e) [
        | inl u ↦ or_left (at_in r k == node) (at_in r k == into) (eq-eqb (at_in r k) node u)
        | inr u ↦ or_right (at_in r k == node) (at_in r k == into) (eq-eqb (at_in r k) into u)
      ]))

  pub back_is : (list_any (λ m. at_in r m == node) nodes ≡ true) ↔ HasEdgeBack edge entry (at_in r) node
  back_is = (
    λ t.
        let m = some_passes (λ m. at_in r m == node) nodes t in
        (m.0, h.listed m.0 node m.1, m.1, eqb-true (at_in r m.0) node m.2),
    λ back. passes_at (λ m. at_in r m == node) nodes back.0 back.2 (eq-eqb (at_in r back.0) node back.3),
  )

  -- the node is marked, or not
  module _ (marks : Vec Bool) (mark : Bool) (is : mark ≡ list_any (λ m. at_in r m == node) nodes) (set : marks.items ≡ slice_set r.headers.items node mark) where
    abbrev marked : ReducingOf
    marked = record { regions = r.regions; joinings = r.joinings; headers = marks }

    mark_here : marked_in marked node ≡ mark
    mark_here =
        ap (λ l. get_or l node false) set
        ∙ get_or-set_same r.headers.items node mark false (omega (arith, h.marks, below sources entry inside reached))

    mark_other : (n : ℕ) → ¬ (n ≡ node) → marked_in marked n ≡ marked_in r n
    mark_other n off = ap (λ l. get_or l n false) set ∙ get_or-set_other r.headers.items node n mark false off

    pub back_now : (marked_in marked node ≡ true) ↔ HasEdgeBack edge entry (at_in r) node
    back_now = subst (λ b. (b ≡ true) ↔ HasEdgeBack edge entry (at_in r) node) (sym (mark_here ∙ is)) back_is

    pub marked_on : IsReducing sources entry marked
    marked_on = record {
      whole = h.whole;
      marks = ap length set ∙ length-set r.headers.items node mark ∙ h.marks;
      listed = h.listed;
      joined = joined_marked edge entry (at_in r) (marked_in r) (marked_in marked) h.joined node reached own mark_other;
    }

    pub done_still : (n : ℕ) → ¬ (n ≡ node) → IsDone edge entry (at_in r) (marked_in r) n → IsDone edge entry (at_in marked) (marked_in marked) n
    done_still n off done = record {
      stuck = done.stuck;
      marked = subst (λ b. (b ≡ true) ↔ HasEdgeBack edge entry (at_in r) n) (sym (mark_other n off)) done.marked;
    }

    pub entry_done : node ≡ entry → IsDone edge entry (at_in marked) (marked_in marked) node
    entry_done e = record { stuck = λ off into may. off e; marked = back_now }

    pub stuck_done : ((into : ℕ) → may_join (at_in r) nodes node into ≡ false) → IsDone edge entry (at_in marked) (marked_in marked) node
    stuck_done none = record { stuck = λ off into may. false≢true (sym (none into) ∙ may_so into may); marked = back_now }

    -- the region is joined
    module _ (off : ¬ (node ≡ entry)) (into : ℕ) (may : may_join (at_in r) nodes node into ≡ true) (regions : RegionsOf) (joinings : Vec Joining)
        (whole : AreRegions (length sources) (regions_of regions))
        (joined : (n : ℕ) → n < length sources → region_at (regions_of regions) n ≡ joined_at (at_in r) node into n) where
      abbrev now : ReducingOf
      now = record { regions = regions; joinings = joinings; headers = marks }

      same_now : (n : ℕ) → IsReached edge entry n → at_in now n ≡ joined_at (at_in r) node into n
      same_now n s = joined n (below sources entry inside s)

      join_on : IsReducing sources entry now
      join_on = record {
        whole = whole;
        marks = marked_on.marks;
        listed = h.listed;
        joined = joined_same edge entry (joined_at (at_in r) node into) (at_in now) (marked_in marked) same_now
            (joined_on edge entry (at_in r) (marked_in marked) marked_on.joined node into reached own off (may_is into may) back_now);
      }

      join_gone : ¬ (at_in now node ≡ node)
      join_gone e =
          gone edge entry (at_in r) (marked_in marked) marked_on.joined node into reached own off (may_is into may) (sym (same_now node reached) ∙ e)

      join_fewer : (n : ℕ) → IsReached edge entry n → at_in now n ≡ n → at_in r n ≡ n
      join_fewer n s e =
          was_own edge entry (at_in r) (marked_in marked) marked_on.joined node into reached own off (may_is into may) n s (sym (same_now n s) ∙ e)

      pub try_on : IsTried sources entry r node now
      try_on = record { reducing = join_on; gone = join_gone; fewer = join_fewer }
