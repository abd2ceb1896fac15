-- Laws of the levels of a derived sequence: each has fewer nodes than the one before, or its graph has no edge from a
-- node to itself any more.
use Rattle.std.proofs.Common.{◌≡◌, ℕ, suc, ◌+◌, ◌*◌, ◌<◌, ◌≤◌, Bool, true, false, ◌&&◌, not, inl, inr, List, [], ◌∷◌, ◌++◌, length, get_or, All, refl, sym, ap, ◌∙◌, subst, arith}
use Rattle.std.specs.Prelude.{if◌then◌else◌}
use Rattle.std.specs.List.{list_all}
use Rattle.std.proofs.lemmas.Bool.{false≢true, cases_Bool, cases_eq, eq-eqb, and_cases, not-false}
use Rattle.std.proofs.lemmas.List.{append_assoc, length-map, get_or-map}
use Rattle.std.proofs.lemmas.List.Elements.{All-from_get_or, All-get_or}
use Rattle.dcc_ir.specs.WellFormed.{all_differ}
use Rattle.dcc_flow.specs.Edges.{is_in, leads, AreWithin}
use Rattle.dcc_flow.proofs.Members.{in_here, in_there, in_cases}
use Rattle.dcc_interval.specs.declared.interval.Interval.{Interval as IntervalOf}
use Rattle.dcc_interval.specs.Intervals.{InInterval, itself, Interval, headers_of, IsInterval, AreIntervals, interval_in, intervals_in}
use Rattle.dcc_interval.specs.Derived.{members_at, header_at, leads_between, is_single, is_still, IsDerived, ends, goes_on, collapsed}
use Rattle.dcc_interval.specs.Collapsing.{AreCollapsed}
use Rattle.dcc_interval.proofs.IntervalLaws.{header_reached, alone}
use Rattle.dcc_interval.proofs.PlaceLaws.{off_head, differ_more, in_at, few}
use Rattle.dcc_interval.proofs.PartLaws.{no_interval, header_is}
use Rattle.dcc_interval.proofs.ReachLaws.{reached_inside}
use Rattle.dcc_interval.proofs.CollapseLaws.{member_inside}

-- Intervals as they are declared.

pub declared_header : (level : List IntervalOf) (k : ℕ) (d : IntervalOf) → k < length level → (get_or level k d).header ≡ header_at (intervals_in level) k
declared_header level k d less =
    sym (get_or-map (λ (i : Interval). i.header) (intervals_in level) k (interval_in d) 0 (omega (arith, less, length-map level interval_in))
    ∙ ap (λ (i : Interval). i.header) (get_or-map interval_in level k d (interval_in d) less))

pub declared_members : (level : List IntervalOf) (k : ℕ) (d : IntervalOf) → k < length level → (get_or level k d).members.items ≡ members_at (intervals_in level) k
declared_members level k d less =
    sym (get_or-map (λ (i : Interval). i.members) (intervals_in level) k (interval_in d) [] (omega (arith, less, length-map level interval_in))
    ∙ ap (λ (i : Interval). i.members) (get_or-map interval_in level k d (interval_in d) less))

-- Single nodes.

pub some_fails : (f : Interval → Bool) (level : List Interval) → list_all f level ≡ false → (k : ℕ) × (k < length level) × (f (get_or level k no_interval) ≡ false)
some_fails f [] h = absurd (false≢true (sym h))
some_fails f (i ∷ level) h = elim (and_cases (f i) (list_all f level) h) [
  | inl e ↦ (0, omega arith, e)
  | inr r ↦ let there = some_fails f level r in (suc there.0, omega (arith, there.1), there.2)
]

pub another : (ns : List ℕ) (n : ℕ) → is_in ns n ≡ true → is_single ns ≡ false → all_differ ns ≡ true → (m : ℕ) × (is_in ns m ≡ true) × ¬ (m ≡ n)
another [] n h single differ = absurd (false≢true h)
another (x ∷ []) n h single differ = absurd (false≢true (sym single))
another (x ∷ y ∷ ns) n h single differ = elim (cases_eq x n) [
  | inl e ↦ (y, in_there x y (y ∷ ns) (in_here y ns), λ s. false≢true (sym (off_head x (y ∷ ns) differ) ∙ subst (λ k. is_in (y ∷ ns) k ≡ true) (s ∙ sym e) (in_here y ns)))
  | inr o ↦ (x, in_here x (y ∷ ns), o)
]

module _ (next : List (List ℕ)) (entry : ℕ) (within : AreWithin next) (inside : entry < length next) (level : List Interval) (are : AreIntervals (leads next) entry level) where
  pub header_inside : (n : ℕ) → is_in (headers_of level) n ≡ true → n < length next
  header_inside n h = reached_inside next entry within inside (header_reached (leads next) entry ((are.headers n).0 h))

  pub few_intervals : length level ≤ length next
  few_intervals =
      let all = few (headers_of level) (length next) are.once header_inside in
      omega (arith, all, length-map level (λ (i : Interval). i.header))

  -- where collapsing changes something though no node has an edge to itself, some interval has two nodes
  pub fewer_intervals : ((n : ℕ) → leads next n n ≡ false) → is_still (leads next) level ≡ false → length level < length next
  fewer_intervals loops changes =
      let at = some_fails (λ i. is_single i.members && not (leads next i.header i.header)) level changes in
      let i = get_or level at.0 no_interval in
      let is : IsInterval (leads next) entry i = All-get_or (IsInterval (leads next) entry) level at.0 no_interval at.1 are.members in
      let many : is_single i.members ≡ false = elim (and_cases (is_single i.members) (not (leads next i.header i.header)) at.2) [
        | inl e ↦ e
        | inr r ↦ absurd (false≢true (sym (loops i.header) ∙ not-false (leads next i.header i.header) r))
      ] in
      let m = another i.members i.header ((is.exact i.header).1 itself) many is.once in
      let in_it : InInterval (leads next) entry i.header m.0 = (is.exact m.0).0 m.1 in
      let no_header : is_in (headers_of level) m.0 ≡ false = elim (cases_Bool (is_in (headers_of level) m.0)) [
        | inl t ↦ absurd (m.2 (alone (leads next) entry ((are.headers m.0).0 t) in_it))
        | inr f ↦ f
      ] in
      let place : members_at level at.0 ≡ i.members = get_or-map (λ (x : Interval). x.members) level at.0 no_interval [] at.1 in
      let m_inside = member_inside next entry within inside level are at.0 m.0 (ap (λ ns. is_in ns m.0) place ∙ m.1) in
      let all = few (m.0 ∷ headers_of level) (length next) (differ_more m.0 (headers_of level) no_header are.once) (λ n t. elim (in_cases m.0 n (headers_of level) t) [
        | inl e ↦ subst (λ k. k < length next) e m_inside
        | inr r ↦ header_inside n r
      ]) in
      omega (arith, all, length-map level (λ (x : Interval). x.header))

pub headers_within : (next : List (List ℕ)) (entry : ℕ) → AreWithin next → entry < length next → (level : List IntervalOf)
    → AreIntervals (leads next) entry (intervals_in level) → (count : ℕ) → length next ≡ count → All (λ (i : IntervalOf). i.header < count) level
headers_within next entry within inside level are count size = λ k d less.
    let there : k < length (intervals_in level) = omega (arith, less, length-map level interval_in) in
    let head = reached_inside next entry within inside (header_reached (leads next) entry (header_is (leads next) entry (intervals_in level) are k there)) in
    let same = declared_header level k d less in
    omega (arith, head, same, size)

pub members_are_within : (next : List (List ℕ)) (entry : ℕ) → AreWithin next → entry < length next → (level : List IntervalOf)
    → AreIntervals (leads next) entry (intervals_in level) → (count : ℕ) → length next ≡ count → All (λ (i : IntervalOf). All (λ n. n < count) i.members.items) level
members_are_within next entry within inside level are count size = λ k d less. subst (λ ns. All (λ n. n < count) ns) (sym (declared_members level k d less))
    (All-from_get_or (λ n. n < count) (members_at (intervals_in level) k) 0 (λ j there.
    let n = get_or (members_at (intervals_in level) k) j 0 in
    let below = member_inside next entry within inside (intervals_in level) are k n (in_at (members_at (intervals_in level) k) j there) in
    omega (arith, below, size)))

-- Collapsed graphs.

pub no_loops : (next : List (List ℕ)) (level : List Interval) (graph : List (List ℕ)) → AreCollapsed next level graph → (n : ℕ) → leads graph n n ≡ false
no_loops next level graph are n = are.edges n n ∙ ap (λ b. not b && leads_between (leads next) (members_at level n) (members_at level n)) (eq-eqb n n refl)

pub same_edges : (next : List (List ℕ)) (level : List Interval) (graph : List (List ℕ)) → AreCollapsed next level graph → leads graph ≡ collapsed (leads next) level
same_edges next level graph are = λ i a b. are.edges a b i

-- The levels so far, the graph of the next one, and whether the last one ends the sequence.
pub record Levels (next : List (List ℕ)) (entry : ℕ) (graph : List (List ℕ)) (still : Bool) (levels : List (List Interval)) : Type 0 where
  pub within : AreWithin graph
  pub some : 0 < length graph
  pub loops : (n : ℕ) → leads graph n n ≡ false
  pub ended : still ≡ true → IsDerived (leads next) entry levels
  pub more : still ≡ false → (rest : List (List Interval)) → IsDerived (leads graph) 0 rest → IsDerived (leads next) entry (levels ++ rest)

pub levels_begin : (next : List (List ℕ)) (entry : ℕ) (level : List Interval) (still : Bool) (graph : List (List ℕ)) (levels : List (List Interval))
    → AreIntervals (leads next) entry level → still ≡ is_still (leads next) level → AreCollapsed next level graph → levels ≡ level ∷ []
    → Levels next entry graph still levels
levels_begin next entry level still graph levels are test collapse is = record {
  within = collapse.within;
  some = omega (arith, ap length are.first.1, length-map level (λ (i : Interval). i.header), collapse.count);
  loops = no_loops next level graph collapse;
  ended = λ t. subst (IsDerived (leads next) entry) (sym is) (ends are (sym test ∙ t));
  more = λ f rest d. subst (λ l. IsDerived (leads next) entry (l ++ rest)) (sym is)
      (goes_on are (sym test ∙ f) (subst (λ e. IsDerived e 0 rest) (same_edges next level graph collapse) d));
}

pub levels_go_on : (next : List (List ℕ)) (entry : ℕ) (graph : List (List ℕ)) (still : Bool) (levels : List (List Interval)) (level : List Interval)
    (test : Bool) (after : List (List ℕ)) (now : List (List Interval))
    → Levels next entry graph still levels → still ≡ false → AreIntervals (leads graph) 0 level → test ≡ is_still (leads graph) level
    → AreCollapsed graph level after → now ≡ levels ++ level ∷ [] → Levels next entry after test now
levels_go_on next entry graph still levels level test after now h off are said collapse is = record {
  within = collapse.within;
  some = omega (arith, ap length are.first.1, length-map level (λ (i : Interval). i.header), collapse.count);
  loops = no_loops graph level after collapse;
  ended = λ t. subst (IsDerived (leads next) entry) (sym is) (h.more off (level ∷ []) (ends are (sym said ∙ t)));
  more = λ f rest d.
      let longer = h.more off (level ∷ rest) (goes_on are (sym said ∙ f) (subst (λ e. IsDerived e 0 rest) (same_edges graph level after collapse) d)) in
      subst (IsDerived (leads next) entry) (sym (ap (λ l. l ++ rest) is ∙ append_assoc levels (level ∷ []) rest)) longer;
}

-- twice the nodes of the next graph, and one more where the sequence goes on
abbrev pub left : List (List ℕ) → Bool → ℕ
left graph still = 2 * length graph + (if still then 0 else 1)

pub less_left : (graph : List (List ℕ)) (still : Bool) (level : List Interval) (test : Bool) (after : List (List ℕ))
    → AreWithin graph → 0 < length graph → ((n : ℕ) → leads graph n n ≡ false) → still ≡ false → AreIntervals (leads graph) 0 level
    → test ≡ is_still (leads graph) level → AreCollapsed graph level after → left after test < left graph still
less_left graph still level test after within some loops off are said collapse =
    let was : left graph still ≡ 2 * length graph + 1 = ap (λ b. 2 * length graph + (if b then 0 else 1)) off in
    elim (cases_Bool test) [
      | inl t ↦
          let now : left after test ≡ 2 * length after + 0 = ap (λ b. 2 * length after + (if b then 0 else 1)) t in
          let few = few_intervals graph 0 within some level are in
          omega (arith, was, now, few, collapse.count)
      | inr f ↦
          let now : left after test ≡ 2 * length after + 1 = ap (λ b. 2 * length after + (if b then 0 else 1)) f in
          let fewer = fewer_intervals graph 0 within some level are loops (sym said ∙ f) in
          omega (arith, was, now, fewer, collapse.count)
    ]
