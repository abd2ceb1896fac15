-- Each graph has a derived sequence.
use Rattle.std.proofs.Common.{◌≡◌, ℕ, zero, suc, ◌+◌, ◌<◌, ◌≤◌, Bool, false, inl, inr, List, [], ◌∷◌, ◌++◌, length, get_or, slice_set, replicate, refl, ap, subst, arith}
use Rattle.std.proofs.lemmas.Bool.{cases_Bool, cases_lt}
use Rattle.std.proofs.lemmas.List.{length-map, length_push}
use Rattle.dcc_flow.specs.Edges.{leads, AreWithin}
use Rattle.dcc_interval.specs.Intervals.{Interval, IsInterval, AreIntervals}
use Rattle.dcc_interval.specs.Derived.{members_at, is_still, IsDerived, ends, goes_on}
use Rattle.dcc_interval.specs.Noted.{Noted, with_all_noted, followers}
use Rattle.dcc_interval.specs.Reaching.{AreReached, all_entered, AreTurned}
use Rattle.dcc_interval.specs.Growing.{Growing, all_joined, IsGrown, AreParted}
use Rattle.dcc_interval.specs.Collapsing.{places_of, row_of, AreCollapsed}
use Rattle.dcc_interval.proofs.ReachLaws.{only_noted, Reaching, reaching_first, reaching_on, few_reached, reaching_last, sources_are, turned_are}
use Rattle.dcc_interval.proofs.GrowthLaws.{IsFollowed}
use Rattle.dcc_interval.proofs.PartedLaws.{few_heads, found_next, grow_begins, grow_goes_on, grow_few, grow_ends, parted_first, parted_last}
use Rattle.dcc_interval.proofs.CollapseLaws.{collapsed_is, rows_push}
use Rattle.dcc_interval.proofs.SequenceLaws.{fewer_intervals, no_loops, same_edges}

-- What is reached is found.

module _ (next : List (List ℕ)) (entry : ℕ) (within : AreWithin next) (inside : entry < length next) where
  reach_on : (fuel : ℕ) (s : Noted) (turn : ℕ) → Reaching next entry s turn → length next ≤ fuel + turn → (found : Noted) × AreReached next entry found
  reach_on zero s turn h enough =
      let few = few_reached next entry within inside s turn h in
      (s, reaching_last next entry within inside s turn h (omega (arith, enough, few)))
  reach_on (suc fuel) s turn h enough = elim (cases_lt turn (length s.list)) [
    | inl less ↦ reach_on fuel (with_all_noted s (get_or next (get_or s.list turn 0) [])) (turn + 1) (reaching_on next entry within inside s turn h less) (omega (arith, enough))
    | inr past ↦ (s, reaching_last next entry within inside s turn h past)
  ]

  found : (found : Noted) × AreReached next entry found
  found = reach_on (length next) (only_noted (length next) entry) 0 (reaching_first next entry within inside) (omega arith)

  turned : (sources : List (List ℕ)) × AreTurned next entry sources
  turned =
      let sources = all_entered (replicate (length next) []) next found.0.list in
      (sources, turned_are next entry found.0 sources within inside found.1 (sources_are next found.0.list within))

-- The intervals of a graph are found, one after another.

module _ (next : List (List ℕ)) (entry : ℕ) (sources : List (List ℕ)) (graph : AreTurned next entry sources) where
  module _ (done : List Interval) (free : List Bool) (heads : Noted) (h : AreParted next entry done free heads) (less : length done < length heads.list)
      (header : ℕ) (at : header ≡ get_or heads.list (length done) 0) where
    abbrev Whole : Growing → Type 0
    Whole s = IsGrown next entry done heads.list header s × IsInterval (leads next) entry (record { header = header; members = s.members })

    grow_on : (fuel : ℕ) (s : Growing) (turn : ℕ) → IsFollowed next entry done heads.list header s turn → length next ≤ fuel + turn → (t : Growing) × Whole t
    grow_on zero s turn f enough =
        let few = grow_few next entry sources graph done free heads h less header at s turn f in
        (s, (f.grown, grow_ends next entry sources graph done free heads h less header at s turn f (omega (arith, enough, few))))
    grow_on (suc fuel) s turn f enough = elim (cases_lt turn (length s.members)) [
      | inl here ↦
          let row = get_or next (get_or s.members turn 0) [] in
          grow_on fuel (all_joined sources s row) (turn + 1)
          (grow_goes_on next entry sources graph done free heads h less header at s turn f here row refl (all_joined sources s row) refl) (omega (arith, enough))
      | inr past ↦ (s, (f.grown, grow_ends next entry sources graph done free heads h less header at s turn f past))
    ]

  part_on : (fuel : ℕ) (done : List Interval) (free : List Bool) (heads : Noted) → AreParted next entry done free heads → length next ≤ fuel + length done
      → (level : List Interval) × AreIntervals (leads next) entry level
  part_on zero done free heads h enough =
      let few = few_heads next entry sources graph done free heads h in
      (done, parted_last next entry sources graph done free heads h (omega (arith, enough, few)))
  part_on (suc fuel) done free heads h enough = elim (cases_lt (length done) (length heads.list)) [
    | inl less ↦
        let header = get_or heads.list (length done) 0 in
        let start = grow_begins next entry sources graph done free heads h less header refl (header ∷ []) refl in
        let grown = grow_on done free heads h less header refl (length next) (record { free = slice_set free header false; claimed = heads.marks; members = header ∷ [] }) 0 start (omega arith) in
        let interval : Interval = record { header = header; members = grown.0.members } in
        let noted = with_all_noted (record { marks = grown.0.claimed; list = heads.list }) (followers next grown.0.members) in
        part_on fuel (done ++ interval ∷ []) grown.0.free noted
        (found_next next entry sources graph done free heads h less header refl grown.0 grown.1.0 grown.1.1 (done ++ interval ∷ []) refl noted refl)
        (omega (arith, enough, length_push done interval))
    | inr past ↦ (done, parted_last next entry sources graph done free heads h past)
  ]

module _ (next : List (List ℕ)) (entry : ℕ) (within : AreWithin next) (inside : entry < length next) where
  level_of : (level : List Interval) × AreIntervals (leads next) entry level
  level_of =
      let graph = turned next entry within inside in
      let all = found next entry within inside in
      let first = parted_first next entry graph.0 graph.1 all.0 all.1 (only_noted (length next) entry) refl in
      part_on next entry graph.0 graph.1 (length next) [] all.0.marks (only_noted (length next) entry) first (omega arith)

-- so many rows
rows_to : (f : ℕ → List ℕ) (count : ℕ) → (graph : List (List ℕ)) × (length graph ≡ count) × ((a : ℕ) → a < count → get_or graph a [] ≡ f a)
rows_to f zero = ([], refl, λ a less. absurd (omega (arith, less)))
rows_to f (suc count) =
    let before = rows_to f count in (
      before.0 ++ f count ∷ [],
      omega (arith, before.1, length_push before.0 (f count)),
      λ a less. rows_push f before.0 (f count) count before.1 before.2 refl a (omega (arith, less)),
    )

-- The graph of the next level is found.

module _ (next : List (List ℕ)) (entry : ℕ) (within : AreWithin next) (inside : entry < length next) (level : List Interval) (are : AreIntervals (leads next) entry level) where
  after : (graph : List (List ℕ)) × AreCollapsed next level graph
  after =
      let rows = rows_to (λ a. row_of next (places_of (length next) level) (length level) a (members_at level a)) (length level) in
      (rows.0, collapsed_is next entry within inside level are rows.0 rows.1 rows.2)

  some_level : 0 < length level
  some_level = omega (arith, ap length are.first.1, length-map level (λ (i : Interval). i.header))

derive_on : (fuel : ℕ) (graph : List (List ℕ)) → AreWithin graph → 0 < length graph → ((n : ℕ) → leads graph n n ≡ false) → length graph ≤ fuel
    → (levels : List (List Interval)) × IsDerived (leads graph) 0 levels
derive_on zero graph within some loops enough = absurd (omega (arith, some, enough))
derive_on (suc fuel) graph within some loops enough =
    let level = level_of graph 0 within some in
    elim (cases_Bool (is_still (leads graph) level.0)) [
      | inl still ↦ (level.0 ∷ [], ends level.1 still)
      | inr moves ↦
          let fewer = fewer_intervals graph 0 within some level.0 level.1 loops moves in
          let later = after graph 0 within some level.0 level.1 in
          let there = some_level graph 0 within some level.0 level.1 in
          let rest = derive_on fuel later.0 later.1.within (omega (arith, there, later.1.count)) (no_loops graph level.0 later.0 later.1) (omega (arith, fewer, later.1.count, enough)) in
          (level.0 ∷ rest.0, goes_on level.1 moves (subst (λ e. IsDerived e 0 rest.0) (same_edges graph level.0 later.0 later.1) rest.1))
    ]

pub derives : (next : List (List ℕ)) (entry : ℕ) → AreWithin next → entry < length next → (levels : List (List Interval)) × IsDerived (leads next) entry levels
derives next entry within inside =
    let level = level_of next entry within inside in
    elim (cases_Bool (is_still (leads next) level.0)) [
      | inl still ↦ (level.0 ∷ [], ends level.1 still)
      | inr moves ↦
          let later = after next entry within inside level.0 level.1 in
          let there = some_level next entry within inside level.0 level.1 in
          let rest = derive_on (length later.0) later.0 later.1.within (omega (arith, there, later.1.count)) (no_loops next level.0 later.0 later.1) (omega arith) in
          (level.0 ∷ rest.0, goes_on level.1 moves (subst (λ e. IsDerived e 0 rest.0) (same_edges next level.0 later.0 later.1) rest.1))
    ]
