-- Laws of what the code knows while the intervals of a graph are found.
use Rattle.std.proofs.Common.{◌≡◌, ℕ, ◌+◌, ◌<◌, ◌≤◌, Bool, true, false, inl, inr, List, [], ◌∷◌, ◌++◌, length, get_or, slice_set, replicate, All, sym, ap, ◌∙◌, subst, arith}
use Rattle.std.specs.Global.{Vec}
use Rattle.std.proofs.lemmas.Bool.{cases_lt}
use Rattle.std.proofs.lemmas.List.{length-map, length-replicate, get_or-replicate, get_or_past, map_push}
use Rattle.dcc_flow.specs.Edges.{is_in, leads, AreWithin}
use Rattle.dcc_interval.specs.declared.growth.Parting.{Parting}
use Rattle.dcc_interval.specs.Intervals.{IsInterval, AreIntervals, interval_in, intervals_in}
use Rattle.dcc_interval.specs.Noted.{Noted, noted_of, with_all_noted, followers}
use Rattle.dcc_interval.specs.Reaching.{AreReached, AreTurned}
use Rattle.dcc_interval.specs.Growing.{Growing, all_joined, AreChecked, growing_of, AreParted, IsGrown, entry_of, IsParted}
use Rattle.std.proofs.lemmas.List.Elements.{All-from_get_or}
use Rattle.dcc_interval.proofs.IntervalLaws.{reached_within, header_reached}
use Rattle.dcc_interval.proofs.PlaceLaws.{in_at}
use Rattle.dcc_interval.proofs.ReachLaws.{reached_inside}
use Rattle.dcc_interval.proofs.GrowthLaws.{IsFollowed}
use Rattle.dcc_interval.proofs.PartedLaws.{next_inside, grow_begins, grow_goes_on, grow_inside, grow_few, grow_ends, found_next, few_heads, parted_last}

-- the first header is the entry
pub entry_is : (next : List (List ℕ)) (entry : ℕ) (p : Parting) → IsParted next entry p → entry_of p ≡ entry
entry_is next entry p h = ap (λ l. get_or l 0 0) h.begins.1

module _ (next sources : List (List ℕ)) (p : Parting) (graph : AreTurned next (entry_of p) sources) (h : IsParted next (entry_of p) p)
    (left : length p.intervals.items < length p.heads.list.items) (header : ℕ) (at : header ≡ get_or p.heads.list.items (length p.intervals.items) 0) where
  abbrev pub Follows : Growing → ℕ → Type 0
  Follows s turn = IsFollowed next (entry_of p) (intervals_in p.intervals.items) p.heads.list.items header s turn

  size : length (intervals_in p.intervals.items) ≡ length p.intervals.items
  size = length-map p.intervals.items interval_in

  less : length (intervals_in p.intervals.items) < length p.heads.list.items
  less = omega (arith, left, size)

  at_next : header ≡ get_or p.heads.list.items (length (intervals_in p.intervals.items)) 0
  at_next = at ∙ ap (λ k. get_or p.heads.list.items k 0) (sym size)

  pub header_inside : header < length next
  header_inside = next_inside next (entry_of p) sources graph (intervals_in p.intervals.items) p.free.items (noted_of p.heads) h less header at_next

  pub begins : (members : List ℕ) → members ≡ header ∷ [] → Follows (record { free = slice_set p.free.items header false; claimed = p.heads.marks.items; members = members }) 0
  begins = grow_begins next (entry_of p) sources graph (intervals_in p.intervals.items) p.free.items (noted_of p.heads) h less header at_next

  pub goes_on : (s : Growing) (turn : ℕ) → Follows s turn → turn < length s.members
      → (row : List ℕ) → row ≡ get_or next (get_or s.members turn 0) [] → (after : Growing) → after ≡ all_joined sources s row → Follows after (turn + 1)
  goes_on = grow_goes_on next (entry_of p) sources graph (intervals_in p.intervals.items) p.free.items (noted_of p.heads) h less header at_next

  pub member_inside : (s : Growing) (turn : ℕ) → Follows s turn → turn < length s.members → get_or s.members turn 0 < length next
  member_inside s turn f here =
      grow_inside next (entry_of p) sources graph (intervals_in p.intervals.items) p.free.items (noted_of p.heads) h less header at_next s turn (get_or s.members turn 0) f (in_at s.members turn here)

  pub few_members : (s : Growing) (turn : ℕ) → Follows s turn → length s.members ≤ length next
  few_members = grow_few next (entry_of p) sources graph (intervals_in p.intervals.items) p.free.items (noted_of p.heads) h less header at_next

  pub whole : (s : Growing) (turn : ℕ) → Follows s turn → length s.members ≤ turn → IsInterval (leads next) (entry_of p) (record { header = header; members = s.members })
  whole = grow_ends next (entry_of p) sources graph (intervals_in p.intervals.items) p.free.items (noted_of p.heads) h less header at_next

  pub found : (q : Parting) (members : Vec ℕ)
      → IsGrown next (entry_of p) (intervals_in p.intervals.items) p.heads.list.items header (growing_of q members.items)
      → IsInterval (leads next) (entry_of p) (record { header = header; members = members.items })
      → q.heads.list ≡ p.heads.list
      → (r : Parting) → r.intervals.items ≡ p.intervals.items ++ record { header = header; members = members } ∷ [] → r.free ≡ q.free
      → noted_of r.heads ≡ with_all_noted (noted_of q.heads) (followers next members.items)
      → IsParted next (entry_of p) r
  found q members g is list r intervals free heads =
      subst (λ f. AreParted next (entry_of p) (intervals_in r.intervals.items) f (noted_of r.heads)) (sym (ap (λ (v : Vec Bool). v.items) free))
      (found_next next (entry_of p) sources graph (intervals_in p.intervals.items) p.free.items (noted_of p.heads) h less header at_next (growing_of q members.items) g is
      (intervals_in r.intervals.items)
      (ap intervals_in intervals ∙ map_push interval_in p.intervals.items (record { header = header; members = members }))
      (noted_of r.heads)
      (heads ∙ ap (λ (l : Vec ℕ). with_all_noted (record { marks = q.heads.marks.items; list = l.items }) (followers next members.items)) list))

-- the members of what has grown are nodes of the graph
pub grown_within : (next sources : List (List ℕ)) (p : Parting) → AreTurned next (entry_of p) sources → IsParted next (entry_of p) p
    → length p.intervals.items < length p.heads.list.items → (header : ℕ) → header ≡ get_or p.heads.list.items (length p.intervals.items) 0 → (s : Growing)
    → IsGrown next (entry_of p) (intervals_in p.intervals.items) p.heads.list.items header s → (count : ℕ) → length next ≡ count → All (λ n. n < count) s.members
grown_within next sources p graph h left header at s g count size = All-from_get_or (λ n. n < count) s.members 0 (λ i here.
    let listed = subst (λ k. is_in p.heads.list.items k ≡ true) (sym at) (in_at p.heads.list.items (length p.intervals.items) left) in
    let there = reached_inside next (entry_of p) graph.within graph.inside
    (reached_within (leads next) (entry_of p) (header_reached (leads next) (entry_of p) (h.heads_are header listed)) (g.members (get_or s.members i 0) (in_at s.members i here))) in
    omega (arith, there, size))

-- at first no place was looked at
pub none_checked : (sources : List (List ℕ)) (free : List Bool) (count : ℕ) → AreChecked sources free (replicate count 0)
none_checked sources free count n k below = absurd (elim (cases_lt n count) [
  | inl inside ↦ let is : get_or (replicate count 0) n 0 ≡ 0 = get_or-replicate {A = ℕ} count n 0 0 inside in omega (arith, is, below)
  | inr past ↦
      let is : get_or (replicate count 0) n 0 ≡ 0 = get_or_past {X = ℕ} (replicate count 0) n 0 (omega (arith, past, length-replicate {A = ℕ} count 0)) in
      omega (arith, is, below)
])

-- what is reached are nodes of the graph
pub reached_below : (next : List (List ℕ)) (entry : ℕ) (found : Noted) (count : ℕ) → AreWithin next → entry < length next → AreReached next entry found
    → length next ≡ count → All (λ n. n < count) found.list
reached_below next entry found count within inside are size = All-from_get_or (λ n. n < count) found.list 0 (λ i less.
    let n = get_or found.list i 0 in
    let there = reached_inside next entry within inside ((are.exact n).0 (in_at found.list i less)) in
    omega (arith, there, size))

-- The turns of the loop that finds the intervals.
module _ (next sources : List (List ℕ)) (entry : ℕ) (graph : AreTurned next entry sources) (p : Parting) (h : IsParted next entry p) where
  pub at_entry : AreTurned next (entry_of p) sources
  at_entry = subst (λ e. AreTurned next e sources) (sym (entry_is next entry p h)) graph

  pub parted_there : IsParted next (entry_of p) p
  parted_there = subst (λ e. IsParted next e p) (sym (entry_is next entry p h)) h

  pub parted_back : (q : Parting) → IsParted next (entry_of p) q → IsParted next entry q
  parted_back q k = subst (λ e. IsParted next e q) (entry_is next entry p h) k

  count_is : length (intervals_in p.intervals.items) ≡ length p.intervals.items
  count_is = length-map p.intervals.items interval_in

  pub few_found : length p.heads.list.items ≤ length next
  few_found = few_heads next entry sources graph (intervals_in p.intervals.items) p.free.items (noted_of p.heads) h

  pub all_found : length p.heads.list.items ≤ length p.intervals.items → AreIntervals (leads next) entry (intervals_in p.intervals.items)
  all_found past = parted_last next entry sources graph (intervals_in p.intervals.items) p.free.items (noted_of p.heads) h (omega (arith, past, count_is))
