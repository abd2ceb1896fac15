-- Laws of the search for loop headers.
use Rattle.std.proofs.Common.{◌≡◌, ℕ, ◌+◌, ◌<◌, ◌≤◌, Bool, true, false, not, inl, inr, List, [], ◌∷◌, ◌++◌, length, get_or, map, drop, All, refl, sym, ap, ◌∙◌, subst, arith}
use Rattle.std.specs.Prelude.{◌==◌, filter, if◌then◌else◌}
use Rattle.std.specs.List.{list_any}
use Rattle.std.specs.Global.{Vec}
use Rattle.std.proofs.lemmas.Bool.{false≢true, and_parts}
use Rattle.std.proofs.lemmas.List.{append-nil, append_assoc, length-map, length-drop, get_or-map, map-append, drop_more, drop_all}
use Rattle.std.proofs.lemmas.List.Elements.{All-from_get_or}
use Rattle.dcc_flow.specs.Edges.{is_in, leads, AreWithin}
use Rattle.dcc_flow.proofs.Members.{in_here, in_there, in_cases, in_either}
use Rattle.dcc_flow.proofs.SourceLaws.{by_test}
use Rattle.dcc_interval.specs.declared.interval.Interval.{Interval as IntervalOf}
use Rattle.dcc_interval.specs.Graphs.{IsReached, at_entry, along}
use Rattle.dcc_interval.specs.Intervals.{Interval, headers_of, AreIntervals, interval_in, intervals_in}
use Rattle.dcc_interval.specs.Derived.{members_at, leads_between, collapsed, IsDerived, ends, goes_on, back_headers, header_at, loop_headers, levels_in}
use Rattle.dcc_interval.specs.Collapsing.{AreCollapsed}
use Rattle.dcc_interval.proofs.IntervalLaws.{header_reached}
use Rattle.dcc_interval.proofs.PlaceLaws.{in_at}
use Rattle.dcc_interval.proofs.PartLaws.{members_within, header_is}
use Rattle.dcc_interval.proofs.GrowthLaws.{some_passes}
use Rattle.dcc_interval.proofs.SequenceLaws.{header_inside, same_edges}

-- Lists.

pub in_map : (f : ℕ → ℕ) (ns : List ℕ) (n : ℕ) → is_in (map f ns) n ≡ true → (m : ℕ) × (is_in ns m ≡ true) × (f m ≡ n)
in_map f [] n h = absurd (false≢true h)
in_map f (m ∷ ns) n h = elim (in_cases (f m) n (map f ns) h) [
  | inl e ↦ (m, in_here m ns, e)
  | inr t ↦ let there = in_map f ns n t in (there.0, in_there m there.0 ns there.1, there.2)
]

-- what is looked up in a list that was itself looked up
looked_up : (f : ℕ → ℕ) (xs ns : List ℕ) → ((n : ℕ) → is_in ns n ≡ true → n < length xs) → map (λ n. get_or (map f xs) n 0) ns ≡ map f (map (λ n. get_or xs n 0) ns)
looked_up f xs [] below = refl
looked_up f xs (n ∷ ns) below =
    ap (λ m. m ∷ map (λ k. get_or (map f xs) k 0) ns) (get_or-map f xs n 0 0 (below n (in_here n ns)))
    ∙ ap (λ l. f (get_or xs n 0) ∷ l) (looked_up f xs ns (λ m t. below m (in_there n m ns t)))

-- Loop headers are nodes.

back_is_header : (edge : ℕ → ℕ → Bool) (level : List Interval) (n : ℕ) → is_in (back_headers edge level) n ≡ true → is_in (headers_of level) n ≡ true
back_is_header edge level n h = kept (λ i. list_any (λ m. edge m i.header) i.members) level h
  where
    kept : (test : Interval → Bool) (is : List Interval) → is_in (map (λ (i : Interval). i.header) (filter test is)) n ≡ true → is_in (headers_of is) n ≡ true
    kept test [] h = h
    kept test (i ∷ is) h = by_test (λ l. is_in (map (λ (x : Interval). x.header) l) n ≡ true → is_in (i.header ∷ headers_of is) n ≡ true)
        (test i) (i ∷ filter test is) (filter test is)
        (λ t k. elim (in_cases i.header n (map (λ (x : Interval). x.header) (filter test is)) k) [
          | inl e ↦ subst (λ m. is_in (i.header ∷ headers_of is) m ≡ true) e (in_here i.header (headers_of is))
          | inr r ↦ in_there i.header n (headers_of is) (kept test is r)
        ])
        (λ f k. in_there i.header n (headers_of is) (kept test is k)) h

-- what follows a place is a place of the level
pub follower_inside : (edge : ℕ → ℕ → Bool) (level : List Interval) (m p : ℕ) → collapsed edge level m p ≡ true → p < length level
follower_inside edge level m p e =
    let parts = and_parts (not (m == p)) (leads_between edge (members_at level m) (members_at level p)) e in
    let from = some_passes (λ x. list_any (edge x) (members_at level p)) (members_at level m) parts.1 in
    let to = some_passes (edge from.0) (members_at level p) from.2 in
    members_within level p to.0 to.1

-- the nodes of a collapsed graph are places of the level
pub place_inside : (edge : ℕ → ℕ → Bool) (entry : ℕ) (level : List Interval) → AreIntervals edge entry level → {p : ℕ} → IsReached (collapsed edge level) 0 p → p < length level
place_inside edge entry level are at_entry = omega (arith, ap length are.first.1, length-map level (λ (i : Interval). i.header))
place_inside edge entry level are (along {m = m} {n = p} r e) = follower_inside edge level m p e

back_reached : (edge : ℕ → ℕ → Bool) (entry : ℕ) (level : List Interval) → AreIntervals edge entry level → (n : ℕ) → is_in (back_headers edge level) n ≡ true → IsReached edge entry n
back_reached edge entry level are n h = header_reached edge entry ((are.headers n).0 (back_is_header edge level n h))

pub headers_reached : {edge : ℕ → ℕ → Bool} {entry : ℕ} {levels : List (List Interval)} → IsDerived edge entry levels → (n : ℕ) → is_in (loop_headers edge levels) n ≡ true → IsReached edge entry n
headers_reached {edge = edge} {entry = entry} (ends {level = level} are still) n h = elim (in_either (back_headers edge level) [] n h) [
  | inl back ↦ back_reached edge entry level are n back
  | inr none ↦ absurd (false≢true none)
]
headers_reached {edge = edge} {entry = entry} (goes_on {level = level} {levels = levels} are still more) n h =
    let rest = loop_headers (collapsed edge level) levels in
    elim (in_either (back_headers edge level) (map (header_at level) rest) n h) [
      | inl back ↦ back_reached edge entry level are n back
      | inr there ↦
          let at = in_map (header_at level) rest n there in
          let inside = place_inside edge entry level are (headers_reached more at.0 at.1) in
          subst (IsReached edge entry) at.2 (header_reached edge entry (header_is edge entry level are at.0 inside))
    ]

-- The levels of a sequence.

pub first_level : {edge : ℕ → ℕ → Bool} {entry : ℕ} {levels : List (List Interval)} → IsDerived edge entry levels → (0 < length levels) × AreIntervals edge entry (get_or levels 0 [])
first_level (ends are still) = (omega arith, are)
first_level (goes_on are still more) = (omega arith, are)

-- So many levels were gone through. The loop headers so far are listed. Each node of the graph of the next level stands
-- for one of the first graph.
pub record Listing (edge : ℕ → ℕ → Bool) (levels : List (List Interval)) (graph : List (List ℕ)) (stands list : List ℕ) (place : ℕ) : Type 0 where
  pub within : AreWithin graph
  pub some : 0 < length graph
  pub count : length stands ≡ length graph
  pub derived : place < length levels → IsDerived (leads graph) 0 (drop place levels)
  pub rest : list ++ map (λ n. get_or stands n 0) (loop_headers (leads graph) (drop place levels)) ≡ loop_headers edge levels

pub listing_first : (next : List (List ℕ)) (entry : ℕ) (levels : List (List Interval)) → IsDerived (leads next) entry levels
    → (graph : List (List ℕ)) → AreCollapsed next (get_or levels 0 []) graph → (stands list : List ℕ) → stands ≡ headers_of (get_or levels 0 [])
    → list ≡ back_headers (leads next) (get_or levels 0 []) → Listing (leads next) levels graph stands list 1
listing_first next entry levels (ends {level = level} are still) graph collapse stands list stands_are list_is = record {
  within = collapse.within;
  some = omega (arith, ap length are.first.1, length-map level (λ (i : Interval). i.header), collapse.count);
  count = omega (arith, ap length stands_are, length-map level (λ (i : Interval). i.header), collapse.count);
  derived = λ less. absurd (omega (arith, less));
  rest = ap (λ l. l ++ []) list_is;
}
listing_first next entry levels (goes_on {level = level} {levels = rest} are still more) graph collapse stands list stands_are list_is =
    let same = same_edges next level graph collapse in
    record {
      within = collapse.within;
      some = omega (arith, ap length are.first.1, length-map level (λ (i : Interval). i.header), collapse.count);
      count = omega (arith, ap length stands_are, length-map level (λ (i : Interval). i.header), collapse.count);
      derived = λ less. subst (λ e. IsDerived e 0 rest) (sym same) more;
      rest = ap (λ l. l ++ map (λ n. get_or stands n 0) (loop_headers (leads graph) rest)) list_is
          ∙ ap (λ s. back_headers (leads next) level ++ map (λ n. get_or s n 0) (loop_headers (leads graph) rest)) stands_are
          ∙ ap (λ e. back_headers (leads next) level ++ map (header_at level) (loop_headers e rest)) same;
    }

-- one level on
record Step (graph after : List (List ℕ)) (level : List Interval) (rest : List (List Interval)) : Type 0 where
  are : AreIntervals (leads graph) 0 level
  derived : 0 < length rest → IsDerived (leads after) 0 rest
  same : (f : ℕ → ℕ) → map (λ n. get_or (map f (headers_of level)) n 0) (loop_headers (leads after) rest) ≡ map f (map (header_at level) (loop_headers (collapsed (leads graph) level) rest))

step : (graph after : List (List ℕ)) (level : List Interval) (rest : List (List Interval)) → IsDerived (leads graph) 0 (level ∷ rest) → AreCollapsed graph level after → Step graph after level rest
step graph after level [] (ends are still) collapse = record { are = are; derived = λ less. absurd (omega (arith, less)); same = λ f. refl }
step graph after level rest (goes_on are still more) collapse =
    let edges = same_edges graph level after collapse in
    record {
      are = are;
      derived = λ less. subst (λ e. IsDerived e 0 rest) (sym edges) more;
      same = λ f. ap (λ e. map (λ n. get_or (map f (headers_of level)) n 0) (loop_headers e rest)) edges
          ∙ looked_up f (headers_of level) (loop_headers (collapsed (leads graph) level) rest) (λ n t.
          let inside = place_inside (leads graph) 0 level are (headers_reached more n t) in
          omega (arith, inside, length-map level (λ (i : Interval). i.header)));
    }

module _ (edge : ℕ → ℕ → Bool) (levels : List (List Interval)) (graph : List (List ℕ)) (stands list : List ℕ) (place : ℕ) (h : Listing edge levels graph stands list place)
    (less : place < length levels) where
  now : IsDerived (leads graph) 0 (get_or levels place [] ∷ drop (place + 1) levels)
  now = subst (IsDerived (leads graph) 0) (drop_more levels place [] less) (h.derived less)

  pub level_are : AreIntervals (leads graph) 0 (get_or levels place [])
  level_are = (first_level now).1

  pub headers_below : All (λ n. n < length stands) (headers_of (get_or levels place []))
  headers_below = All-from_get_or (λ n. n < length stands) (headers_of (get_or levels place [])) 0 (λ i here.
      let there = header_inside graph 0 h.within h.some (get_or levels place []) level_are (get_or (headers_of (get_or levels place [])) i 0) (in_at (headers_of (get_or levels place [])) i here) in
      omega (arith, there, h.count))

  pub back_below : All (λ n. n < length stands) (back_headers (leads graph) (get_or levels place []))
  back_below = All-from_get_or (λ n. n < length stands) (back_headers (leads graph) (get_or levels place [])) 0 (λ i here.
      let n = get_or (back_headers (leads graph) (get_or levels place [])) i 0 in
      let there = header_inside graph 0 h.within h.some (get_or levels place []) level_are n
      (back_is_header (leads graph) (get_or levels place []) n (in_at (back_headers (leads graph) (get_or levels place [])) i here)) in
      omega (arith, there, h.count))

  pub listing_on : (after : List (List ℕ)) → AreCollapsed graph (get_or levels place []) after → (stands_now list_now : List ℕ)
      → stands_now ≡ map (λ n. get_or stands n 0) (headers_of (get_or levels place []))
      → list_now ≡ list ++ map (λ n. get_or stands n 0) (back_headers (leads graph) (get_or levels place []))
      → Listing edge levels after stands_now list_now (place + 1)
  listing_on after collapse stands_now list_now stands_are list_is =
      let level = get_or levels place [] in
      let rest = drop (place + 1) levels in
      let one = step graph after level rest now collapse in
      let f : ℕ → ℕ = λ n. get_or stands n 0 in
      let back = back_headers (leads graph) level in
      let later = map (header_at level) (loop_headers (collapsed (leads graph) level) rest) in
      let size = length-map level (λ (i : Interval). i.header) in
      record {
        within = collapse.within;
        some = omega (arith, ap length one.are.first.1, size, collapse.count);
        count = omega (arith, ap length stands_are, length-map (headers_of level) f, size, collapse.count);
        derived = λ more. one.derived (omega (arith, more, length-drop (place + 1) levels));
        rest = ap (λ s. list_now ++ map (λ n. get_or s n 0) (loop_headers (leads after) rest)) stands_are
            ∙ ap (λ l. list_now ++ l) (one.same f)
            ∙ ap (λ l. l ++ map f later) list_is
            ∙ append_assoc list (map f back) (map f later)
            ∙ ap (λ l. list ++ l) (sym (map-append f back later))
            ∙ ap (λ ls. list ++ map f (loop_headers (leads graph) ls)) (sym (drop_more levels place [] less))
            ∙ h.rest;
      }

-- at the end all are listed
pub listing_end : (edge : ℕ → ℕ → Bool) (levels : List (List Interval)) (graph : List (List ℕ)) (stands list : List ℕ) (place : ℕ)
    → Listing edge levels graph stands list place → length levels ≤ place → list ≡ loop_headers edge levels
listing_end edge levels graph stands list place h past =
    sym (append-nil list) ∙ ap (λ ls. list ++ map (λ n. get_or stands n 0) (loop_headers (leads graph) ls)) (sym (drop_all place levels past)) ∙ h.rest

-- a level as it is declared
pub declared_level : (xs : List (Vec IntervalOf)) (p : ℕ) (r : Vec IntervalOf) → p < length xs → r ≡ get_or xs p r → intervals_in r.items ≡ get_or (levels_in xs) p []
declared_level xs p r less read = sym (get_or-map (λ (l : Vec IntervalOf). intervals_in l.items) xs p r [] less ∙ ap (λ (l : Vec IntervalOf). intervals_in l.items) (sym read))

-- the intervals of the list with an edge back to their header
abbrev kept : (ℕ → ℕ → Bool) → List IntervalOf → List Interval
kept edge xs = filter (λ (i : Interval). list_any (λ m. edge m i.header) i.members) (intervals_in xs)

-- a turn of the search for headers with an edge back
back_next : (edge : ℕ → ℕ → Bool) (xs : List IntervalOf) (i : ℕ) (r : IntervalOf) → i < length xs → r ≡ get_or xs i r → (b : Bool)
    → list_any (λ m. edge m r.header) r.members.items ≡ b
    → back_headers edge (intervals_in (drop i xs)) ≡ map (λ (x : Interval). x.header) (if b then interval_in r ∷ kept edge (drop (i + 1) xs) else kept edge (drop (i + 1) xs))
back_next edge xs i r less read b test =
    ap (λ l. back_headers edge (intervals_in l)) (drop_more xs i r less ∙ ap (λ x. x ∷ drop (i + 1) xs) (sym read))
    ∙ ap (λ t. map (λ (x : Interval). x.header) (if t then interval_in r ∷ kept edge (drop (i + 1) xs) else kept edge (drop (i + 1) xs))) test

pub back_taken : (edge : ℕ → ℕ → Bool) (xs : List IntervalOf) (i : ℕ) (r : IntervalOf) → i < length xs → r ≡ get_or xs i r → list_any (λ m. edge m r.header) r.members.items ≡ true
    → back_headers edge (intervals_in (drop i xs)) ≡ r.header ∷ back_headers edge (intervals_in (drop (i + 1) xs))
back_taken edge xs i r less read test = back_next edge xs i r less read true test

pub back_passed : (edge : ℕ → ℕ → Bool) (xs : List IntervalOf) (i : ℕ) (r : IntervalOf) → i < length xs → r ≡ get_or xs i r → list_any (λ m. edge m r.header) r.members.items ≡ false
    → back_headers edge (intervals_in (drop i xs)) ≡ back_headers edge (intervals_in (drop (i + 1) xs))
back_passed edge xs i r less read test = back_next edge xs i r less read false test

-- the first level as it is declared
pub first_there : (edge : ℕ → ℕ → Bool) (entry : ℕ) (xs : List (Vec IntervalOf)) (r : Vec IntervalOf) → IsDerived edge entry (levels_in xs) → r ≡ get_or xs 0 r
    → (intervals_in r.items ≡ get_or (levels_in xs) 0 []) × AreIntervals edge entry (intervals_in r.items)
first_there edge entry xs r derived read =
    let one = first_level derived in
    let is = declared_level xs 0 r (omega (arith, one.0, length-map xs (λ (l : Vec IntervalOf). intervals_in l.items))) read in
    (is, subst (AreIntervals edge entry) (sym is) one.1)
