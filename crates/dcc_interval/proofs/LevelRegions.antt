-- The levels of a derived sequence tell of the regions of the graph.
use Rattle.std.proofs.Common.{◌≡◌, ℕ, ◌<◌, Bool, true, false, ◌&&◌, not, ◌⊎◌, inl, inr, List, [], ◌∷◌, ◌++◌, length, get_or, map, refl, sym, ap, ◌∙◌, subst, arith}
use Rattle.std.specs.Prelude.{◌==◌}
use Rattle.std.specs.List.{list_any}
use Rattle.std.proofs.lemmas.Bool.{false≢true, cases_eq, cases_lt, eq-eqb, eqb-true, ne_eqb, and_parts, and_from, not-true}
use Rattle.std.proofs.lemmas.List.{length-map, get_or-map}
use Rattle.dcc_flow.specs.Edges.{is_in}
use Rattle.dcc_flow.proofs.Members.{in_left, in_right, in_either}
use Rattle.dcc_interval.specs.Graphs.{IsReached, at_entry, along}
use Rattle.dcc_interval.specs.Intervals.{InInterval, itself, follows, Interval, headers_of, AreIntervals}
use Rattle.dcc_interval.specs.Derived.{members_at, leads_between, collapsed, is_single, is_still, IsDerived, ends, goes_on, back_headers, header_at, loop_headers, ends_in_one}
use Rattle.dcc_interval.specs.Reduction.{InRegion, own, joins, holds, InEither, in_one, in_other, IsLedBackTo, HasAll, IsReduced}
use Rattle.dcc_interval.proofs.IntervalLaws.{reached_within, header_reached}
use Rattle.dcc_interval.proofs.PlaceLaws.{one_place}
use Rattle.dcc_interval.proofs.PartLaws.{no_interval, members_within, exact_at, header_is, covered, one_holds}
use Rattle.dcc_interval.proofs.GrowthLaws.{some_passes, passes_at}
use Rattle.dcc_interval.proofs.CollapseLaws.{same_test}
use Rattle.dcc_interval.proofs.LoopLaws.{in_map, follower_inside, place_inside}
use Rattle.dcc_interval.proofs.AgreeLaws.{only, all_at, back_at, back_in, mapped_in}
use Rattle.dcc_interval.proofs.RegionLaws.{region_reached, interval_region, no_way_back}

-- a node of an interval is its header, or all edges to it come from the interval
at_head : {edge : ℕ → ℕ → Bool} {entry h n : ℕ} → InInterval edge entry h n
    → (n ≡ h) ⊎ ((m : ℕ) → IsReached edge entry m → edge m n ≡ true → InInterval edge entry h m)
at_head itself = inl refl
at_head (follows off reached before) = inr before

in_whole : {edge : ℕ → ℕ → Bool} {entry a b k n : ℕ} → InEither edge entry a b k → InRegion edge entry k n → InEither edge entry a b n
in_whole (in_one i) j = in_one (holds i j)
in_whole (in_other i) j = in_other (holds i j)

module _ (edge : ℕ → ℕ → Bool) (entry : ℕ) (level : List Interval) (are : AreIntervals edge entry level) where
  entry_first : header_at level 0 ≡ entry
  entry_first = ap (λ l. get_or l 0 0) are.first.1

  some_there : 0 < length level
  some_there = omega (arith, ap length are.first.1, length-map level (λ (i : Interval). i.header))

  -- the entry is no header of a later interval
  later : (q : ℕ) → q < length level → ¬ (q ≡ 0) → ¬ (header_at level q ≡ entry)
  later q inside off e =
      let size = length-map level (λ (i : Interval). i.header) in
      off (one_place (headers_of level) q 0 are.once (omega (arith, inside, size)) (omega (arith, inside, size)) (e ∙ sym entry_first))

  member_interval : (p n : ℕ) → is_in (members_at level p) n ≡ true → InInterval edge entry (header_at level p) n
  member_interval p n h = (exact_at edge entry level are p (members_within level p n h) n).0 h

  member_reached : (p n : ℕ) → is_in (members_at level p) n ≡ true → IsReached edge entry n
  member_reached p n h =
      reached_within edge entry (header_reached edge entry (header_is edge entry level are p (members_within level p n h))) (member_interval p n h)

  member_region : (p n : ℕ) → is_in (members_at level p) n ≡ true → InRegion edge entry (header_at level p) n
  member_region p n h = interval_region edge entry (member_interval p n h)

  head_in : (p : ℕ) → p < length level → is_in (members_at level p) (header_at level p) ≡ true
  head_in p inside = (exact_at edge entry level are p inside (header_at level p)).1 itself

  -- what has all edges to it from an interval, and one of them from a node that is in it, is in it
  comes_in : (q m n : ℕ) → IsReached edge entry m → edge m n ≡ true → is_in (members_at level q) n ≡ true → ¬ (n ≡ header_at level q) → is_in (members_at level q) m ≡ true
  comes_in q m n r e h off = elim (at_head (member_interval q n h)) [
    | inl same ↦ absurd (off same)
    | inr before ↦ (exact_at edge entry level are q (members_within level q n h) m).1 (before m r e)
  ]

  edge_up : (p q m n : ℕ) → is_in (members_at level p) m ≡ true → is_in (members_at level q) n ≡ true → edge m n ≡ true → ¬ (p ≡ q) → collapsed edge level p q ≡ true
  edge_up p q m n h k e off =
      and_from (not (p == q)) (leads_between edge (members_at level p) (members_at level q)) (ap not (ne_eqb p q off))
      (passes_at (λ x. list_any (edge x) (members_at level q)) (members_at level p) m h (passes_at (edge m) (members_at level q) n k e))

  -- an edge from another interval leads to the header
  enters : (p q : ℕ) → collapsed edge level p q ≡ true
      → (m : ℕ) × IsReached edge entry m × (is_in (members_at level p) m ≡ true) × (edge m (header_at level q) ≡ true)
  enters p q e =
      let parts = and_parts (not (p == q)) (leads_between edge (members_at level p) (members_at level q)) e in
      let from = some_passes (λ x. list_any (edge x) (members_at level q)) (members_at level p) parts.1 in
      let to = some_passes (edge from.0) (members_at level q) from.2 in
      let reached = member_reached p from.0 from.1 in
      elim (cases_eq to.0 (header_at level q)) [
        | inl same ↦ (from.0, reached, from.1, subst (λ x. edge from.0 x ≡ true) same to.2)
        | inr off ↦
            let one = one_holds edge entry level are p q from.0 from.1 (comes_in q from.0 to.0 reached to.2 to.1 off) in
            absurd (false≢true (sym (ap not (eq-eqb p q one)) ∙ parts.0))
      ]

  reached_up : {n : ℕ} → IsReached edge entry n → (p : ℕ) → is_in (members_at level p) n ≡ true → IsReached (collapsed edge level) 0 p
  reached_up at_entry p h =
      let first : is_in (members_at level 0) entry ≡ true = subst (λ x. is_in (members_at level 0) x ≡ true) entry_first (head_in 0 some_there) in
      subst (IsReached (collapsed edge level) 0) (one_holds edge entry level are 0 p entry first h) at_entry
  reached_up (along {m = m} {n = n} r e) p h =
      let from = covered edge entry level are r in
      elim (cases_eq from.0 p) [
        | inl same ↦ reached_up r p (subst (λ k. is_in (members_at level k) m ≡ true) same from.2)
        | inr off ↦ along (reached_up r from.0 from.2) (edge_up from.0 p m n from.2 h e off)
      ]

  -- Regions of the next level are regions of this one.

  region_inside : {p q : ℕ} → InRegion (collapsed edge level) 0 p q → p < length level → q < length level
  region_inside own inside = inside
  region_inside (joins {m = m} {n = q} off i e each) inside = follower_inside edge level m q e
  region_inside (holds i j) inside = region_inside j (region_inside i inside)

  mutual
    region_down : {p q : ℕ} → InRegion (collapsed edge level) 0 p q → p < length level → InRegion edge entry (header_at level p) (header_at level q)
    region_down own inside = own
    region_down (joins {region = p} {m = m} {n = q} off i e each) inside =
        let from = enters m q e in
        let there = follower_inside edge level m q e in
        joins (later q there off) (holds (region_down i inside) (member_region m from.0 from.2)) from.3 (λ x r f.
        let at = covered edge entry level are r in
        elim (cases_eq at.0 q) [
          | inl same ↦ in_other (member_region q x (subst (λ k. is_in (members_at level k) x ≡ true) same at.2))
          | inr apart ↦ in_whole
              (either_down (each at.0 (reached_up r at.0 at.2) (edge_up at.0 q x (header_at level q) at.2 (head_in q there) f apart)) inside there)
              (member_region at.0 x at.2)
        ])
    region_down (holds {region = p} {k = k} {n = q} i j) inside = holds (region_down i inside) (region_down j (region_inside i inside))

    either_down : {p q s : ℕ} → InEither (collapsed edge level) 0 p q s → p < length level → q < length level
        → InEither edge entry (header_at level p) (header_at level q) (header_at level s)
    either_down (in_one i) inside there = in_one (region_down i inside)
    either_down (in_other i) inside there = in_other (region_down i there)

  -- Regions of this level are regions of the next one.

  mutual
    region_up : {a n : ℕ} → InRegion edge entry a n → IsReached edge entry a → (p q : ℕ) → is_in (members_at level p) a ≡ true → is_in (members_at level q) n ≡ true
        → InRegion (collapsed edge level) 0 p q
    region_up (own {n = n}) r p q h k = subst (InRegion (collapsed edge level) 0 p) (one_holds edge entry level are p q n h k) own
    region_up (joins {region = a} {m = m} {n = n} off i e each) r p q h k =
        let reached = region_reached edge entry r i in
        let at = covered edge entry level are reached in
        let up = region_up i r p at.0 h at.2 in
        elim (cases_eq at.0 q) [
          | inl same ↦ subst (InRegion (collapsed edge level) 0 p) same up
          | inr apart ↦ elim (cases_eq n (header_at level q)) [
            | inl head ↦ joins (λ z. off (head ∙ ap (header_at level) z ∙ entry_first)) up (edge_up at.0 q m n at.2 k e apart) (λ s there f.
                let from = enters s q f in
                either_up (each from.0 from.1 (subst (λ x. edge from.0 x ≡ true) (sym head) from.3)) r (along reached e) p q s h k from.2)
            | inr other ↦ absurd (apart (one_holds edge entry level are at.0 q m at.2 (comes_in q m n reached e k other)))
          ]
        ]
    region_up (holds {region = a} {k = c} {n = n} i j) r p q h k =
        let reached = region_reached edge entry r i in
        let at = covered edge entry level are reached in
        holds (region_up i r p at.0 h at.2) (region_up j reached at.0 q at.2 k)

    either_up : {a b n : ℕ} → InEither edge entry a b n → IsReached edge entry a → IsReached edge entry b → (p q s : ℕ)
        → is_in (members_at level p) a ≡ true → is_in (members_at level q) b ≡ true → is_in (members_at level s) n ≡ true
        → InEither (collapsed edge level) 0 p q s
    either_up (in_one i) r t p q s h k l = in_one (region_up i r p s h l)
    either_up (in_other i) r t p q s h k l = in_other (region_up i t q s k l)

  -- Levels that collapsing does not change: each region is one node.

  still_node : is_still edge level ≡ true → (p n : ℕ) → is_in (members_at level p) n ≡ true → (n ≡ header_at level p) × (edge n n ≡ false)
  still_node still p n h =
      let inside = members_within level p n h in
      let i = get_or level p no_interval in
      let parts = and_parts (is_single i.members) (not (edge i.header i.header)) (all_at (λ x. is_single x.members && not (edge x.header x.header)) level p still inside) in
      let members : members_at level p ≡ i.members = get_or-map (λ (x : Interval). x.members) level p no_interval [] inside in
      let header : header_at level p ≡ i.header = get_or-map (λ (x : Interval). x.header) level p no_interval 0 inside in
      let here : is_in i.members n ≡ true = subst (λ ms. is_in ms n ≡ true) members h in
      let head : is_in i.members i.header ≡ true = subst (λ x. is_in i.members x ≡ true) header (subst (λ ms. is_in ms (header_at level p) ≡ true) members (head_in p inside)) in
      let same : n ≡ i.header = only i.members n i.header parts.0 here head in
      (same ∙ sym header, subst (λ x. edge x x ≡ false) (sym same) (not-true (edge i.header i.header) parts.1))

  mutual
    still_region : is_still edge level ≡ true → {a n : ℕ} → InRegion edge entry a n → IsReached edge entry a → a ≡ n
    still_region still own r = refl
    still_region still (joins {region = a} {m = m} {n = n} off i e each) r =
        let reached = along (region_reached edge entry r i) e in
        let at = covered edge entry level are r in
        let there = covered edge entry level are reached in
        let alone = (still_node still there.0 n there.2).1 in
        let head = (still_node still at.0 a at.2).0 in
        let inside : InInterval edge entry a n = follows off reached (λ k s f. elim (still_either still (each k s f) r reached) [
          | inl same ↦ subst (InInterval edge entry a) same itself
          | inr same ↦ absurd (false≢true (sym alone ∙ subst (λ x. edge x n ≡ true) (sym same) f))
        ]) in
        let there_too = (exact_at edge entry level are at.0 at.1 n).1 (subst (λ x. InInterval edge entry x n) head inside) in
        head ∙ sym (still_node still at.0 n there_too).0
    still_region still (holds i j) r = still_region still i r ∙ still_region still j (region_reached edge entry r i)

    still_either : is_still edge level ≡ true → {a b n : ℕ} → InEither edge entry a b n → IsReached edge entry a → IsReached edge entry b → (a ≡ n) ⊎ (b ≡ n)
    still_either still (in_one i) r t = inl (still_region still i r)
    still_either still (in_other i) r t = inr (still_region still i t)

  -- Nodes to which an edge leads from their own region.

  back_led : (n : ℕ) → is_in (back_headers edge level) n ≡ true → IsLedBackTo edge entry n
  back_led n h =
      let b = back_at edge level n h in
      record {
        reached = subst (IsReached edge entry) b.header (header_reached edge entry (header_is edge entry level are b.place b.inside));
        from = b.from;
        inside = subst (λ x. InRegion edge entry x b.from) b.header (member_region b.place b.from b.member);
        leads_back = b.leads_back;
      }

  led_down : (q : ℕ) → IsLedBackTo (collapsed edge level) 0 q → IsLedBackTo edge entry (header_at level q)
  led_down q back =
      let inside = place_inside edge entry level are back.reached in
      let from = enters back.from q back.leads_back in
      record {
        reached = header_reached edge entry (header_is edge entry level are q inside);
        from = from.0;
        inside = holds (region_down back.inside inside) (member_region back.from from.0 from.2);
        leads_back = from.3;
      }

  -- it is a header with an edge back at this level, or it stands for such a node of the next one
  led_up : (n : ℕ) → IsLedBackTo edge entry n
      → (is_in (back_headers edge level) n ≡ true) ⊎ ((q : ℕ) × (header_at level q ≡ n) × IsLedBackTo (collapsed edge level) 0 q)
  led_up n back =
      let reached = region_reached edge entry back.reached back.inside in
      let q = covered edge entry level are back.reached in
      let s = covered edge entry level are reached in
      elim (cases_eq n (header_at level q.0)) [
        | inl head ↦ elim (cases_eq s.0 q.0) [
          | inl same ↦ inl (subst (λ x. is_in (back_headers edge level) x ≡ true) (sym head)
              (back_in edge level q.0 back.from q.1 (subst (λ k. is_in (members_at level k) back.from ≡ true) same s.2) (subst (λ x. edge back.from x ≡ true) head back.leads_back)))
          | inr apart ↦ inr (
            q.0,
            sym head,
            record {
              reached = reached_up back.reached q.0 q.2;
              from = s.0;
              inside = region_up back.inside back.reached q.0 s.0 q.2 s.2;
              leads_back = edge_up s.0 q.0 back.from n s.2 q.2 back.leads_back apart;
            },
          )
        ]
        | inr other ↦ absurd (no_way_back edge entry (header_at level q.0) n (member_region q.0 n q.2) other back
            (member_interval q.0 back.from (comes_in q.0 back.from n reached back.leads_back q.2 other)) back.inside)
      ]

-- Whole sequences.

headers_led : {edge : ℕ → ℕ → Bool} {entry : ℕ} {levels : List (List Interval)} → IsDerived edge entry levels → (n : ℕ) → is_in (loop_headers edge levels) n ≡ true → IsLedBackTo edge entry n
headers_led {edge = edge} {entry = entry} (ends {level = level} are still) n h = elim (in_either (back_headers edge level) [] n h) [
  | inl back ↦ back_led edge entry level are n back
  | inr none ↦ absurd (false≢true none)
]
headers_led {edge = edge} {entry = entry} (goes_on {level = level} {levels = levels} are moves more) n h =
    let rest = loop_headers (collapsed edge level) levels in
    elim (in_either (back_headers edge level) (map (header_at level) rest) n h) [
      | inl back ↦ back_led edge entry level are n back
      | inr late ↦
          let at = in_map (header_at level) rest n late in
          subst (IsLedBackTo edge entry) at.2 (led_down edge entry level are at.0 (headers_led more at.0 at.1))
    ]

led_headers : {edge : ℕ → ℕ → Bool} {entry : ℕ} {levels : List (List Interval)} → IsDerived edge entry levels → (n : ℕ) → IsLedBackTo edge entry n → is_in (loop_headers edge levels) n ≡ true
led_headers {edge = edge} {entry = entry} (ends {level = level} are still) n back =
    let at = covered edge entry level are back.reached in
    let same = still_region edge entry level are still back.inside back.reached in
    absurd (false≢true (sym (still_node edge entry level are still at.0 n at.2).1 ∙ subst (λ x. edge x n ≡ true) (sym same) back.leads_back))
led_headers {edge = edge} {entry = entry} (goes_on {level = level} {levels = levels} are moves more) n back =
    let rest = loop_headers (collapsed edge level) levels in
    elim (led_up edge entry level are n back) [
      | inl here ↦ in_left (back_headers edge level) (map (header_at level) rest) n here
      | inr late ↦ subst (λ x. is_in (back_headers edge level ++ map (header_at level) rest) x ≡ true) late.1
          (in_right (back_headers edge level) (map (header_at level) rest) (header_at level late.0) (mapped_in (header_at level) rest late.0 (led_headers more late.0 late.2)))
    ]

one_more : {edge : ℕ → ℕ → Bool} {entry : ℕ} {levels : List (List Interval)} (level : List Interval) → IsDerived edge entry levels → ends_in_one (level ∷ levels) ≡ ends_in_one levels
one_more level (ends are still) = refl
one_more level (goes_on are moves more) = refl

-- where the region of the next level's entry has all, that of this level's has
all_there : (edge : ℕ → ℕ → Bool) (entry : ℕ) (level : List Interval) → AreIntervals edge entry level → HasAll (collapsed edge level) 0 → HasAll edge entry
all_there edge entry level are has n r =
    let at = covered edge entry level are r in
    holds (subst (λ x. InRegion edge entry x (header_at level at.0)) (entry_first edge entry level are)
    (region_down edge entry level are (has at.0 (reached_up edge entry level are r at.0 at.2)) (some_there edge entry level are)))
    (member_region edge entry level are at.0 n at.2)

one_has_all : {edge : ℕ → ℕ → Bool} {entry : ℕ} {levels : List (List Interval)} → IsDerived edge entry levels → ends_in_one levels ≡ true → HasAll edge entry
one_has_all {edge = edge} {entry = entry} (ends {level = level} are still) one n r =
    let at = covered edge entry level are r in
    let size : length level ≡ 1 = eqb-true (length level) 1 one in
    let first : at.0 ≡ 0 = omega (arith, size, at.1) in
    subst (λ x. InRegion edge entry x n) (ap (header_at level) first ∙ entry_first edge entry level are) (member_region edge entry level are at.0 n at.2)
one_has_all {edge = edge} {entry = entry} (goes_on {level = level} {levels = levels} are moves more) one n r =
    all_there edge entry level are (λ p s. one_has_all more (sym (one_more level more) ∙ one) p s) n r

all_have_one : {edge : ℕ → ℕ → Bool} {entry : ℕ} {levels : List (List Interval)} → IsDerived edge entry levels → HasAll edge entry → ends_in_one levels ≡ true
all_have_one {edge = edge} {entry = entry} (ends {level = level} are still) has =
    let size = length-map level (λ (i : Interval). i.header) in
    let there = some_there edge entry level are in
    elim (cases_lt 1 (length level)) [
      | inl two ↦
          let second = header_reached edge entry (header_is edge entry level are 1 two) in
          let same : entry ≡ header_at level 1 = still_region edge entry level are still (has (header_at level 1) second) at_entry in
          absurd (later edge entry level are 1 two (λ z. absurd (omega (arith, z))) (sym same))
      | inr one ↦ eq-eqb (length level) 1 (omega (arith, one, there))
    ]
all_have_one {edge = edge} {entry = entry} (goes_on {level = level} {levels = levels} are moves more) has =
    one_more level more ∙ all_have_one more (λ q r.
    let inside = place_inside edge entry level are r in
    let head = header_reached edge entry (header_is edge entry level are q inside) in
    let first : is_in (members_at level 0) entry ≡ true =
    subst (λ x. is_in (members_at level 0) x ≡ true) (entry_first edge entry level are) (head_in edge entry level are 0 (some_there edge entry level are)) in
    region_up edge entry level are (has (header_at level q) head) at_entry 0 q first (head_in edge entry level are q inside))

-- what a derived sequence tells is told by the regions
pub levels_reduce : (edge : ℕ → ℕ → Bool) (entry : ℕ) (levels : List (List Interval)) → IsDerived edge entry levels
    → IsReduced edge entry (is_in (loop_headers edge levels)) (ends_in_one levels)
levels_reduce edge entry levels derived = record {
  headers = λ n. (headers_led derived n, led_headers derived n);
  one = (one_has_all derived, all_have_one derived);
}

-- what is told by the regions is told in one way
pub reductions_agree : (edge : ℕ → ℕ → Bool) (entry : ℕ) (f g : ℕ → Bool) (one two : Bool) → IsReduced edge entry f one → IsReduced edge entry g two
    → ((n : ℕ) → f n ≡ g n) × (one ≡ two)
reductions_agree edge entry f g one two h k = (
  λ n. same_test (f n) (g n) (λ t. (k.headers n).1 ((h.headers n).0 t)) (λ t. (h.headers n).1 ((k.headers n).0 t)),
  same_test one two (λ t. k.one.1 (h.one.0 t)) (λ t. h.one.1 (k.one.0 t)),
)
