-- Laws of how a graph is collapsed.
use Rattle.std.proofs.Common.{◌≡◌, ℕ, zero, suc, ◌+◌, ◌<◌, ◌≤◌, Bool, true, false, ◌&&◌, ◌||◌, not, inl, inr, List, [], ◌∷◌, ◌++◌, length, get_or, slice_set, map, drop, replicate, All, refl, sym, ap, ◌∙◌, subst, zero-add, arith}
use Rattle.std.specs.Prelude.{◌==◌, if◌then◌else◌}
use Rattle.std.specs.List.{list_any}
use Rattle.std.proofs.lemmas.Bool.{false≢true, cases_Bool, cases_eq, cases_lt, eqb-true, eq-eqb, ne_eqb, or_parts, and_parts, and_from, false_from_ne_true}
use Rattle.std.proofs.lemmas.List.{length-map, length-set, length-replicate, get_or-replicate, get_or_past, get_or-set_same, get_or-set_other, get_or-map, get_or_append_left, get_or-append-add, get_or_push, length-append, drop_more, drop_all, ext_get_or}
use Rattle.std.proofs.lemmas.List.Elements.{All-nil, All-cons, All-head, All-tail, All-get_or, All-from_get_or}
use Rattle.dcc_flow.specs.Edges.{is_in, leads, AreWithin}
use Rattle.dcc_flow.proofs.Members.{in_cases}
use Rattle.dcc_flow.proofs.SourceLaws.{by_test}
use Rattle.dcc_interval.specs.Graphs.{IsReached, along}
use Rattle.dcc_interval.specs.declared.interval.Interval.{Interval as IntervalOf}
use Rattle.dcc_interval.specs.Intervals.{Interval, AreIntervals, interval_in, intervals_in}
use Rattle.dcc_interval.specs.Noted.{Noted, with_noted, with_all_noted, all_cleared, followers}
use Rattle.dcc_interval.specs.Derived.{members_at, leads_between, collapsed}
use Rattle.dcc_interval.specs.Collapsing.{all_placed, placed_from, places_of, others, nothing_noted, row_of, AreCollapsed}
use Rattle.dcc_interval.proofs.IntervalLaws.{reached_within, header_reached}
use Rattle.dcc_interval.proofs.NotedLaws.{Notes, notes, noted_count, noted_append, in_followers}
use Rattle.dcc_interval.proofs.PlaceLaws.{place_of, in_at}
use Rattle.dcc_interval.proofs.PartLaws.{members_within, exact_at, header_is, covered, one_holds}
use Rattle.dcc_interval.proofs.ReachLaws.{none_marked, reached_inside}
use Rattle.dcc_interval.proofs.GrowthLaws.{some_passes, passes_at}

-- Places.

pub length_all_placed : (places ns : List ℕ) (place : ℕ) → length (all_placed places ns place) ≡ length places
length_all_placed places [] place = refl
length_all_placed places (n ∷ ns) place = length_all_placed (slice_set places n place) ns place ∙ length-set places n place

pub placed_out : (places ns : List ℕ) (place n : ℕ) → is_in ns n ≡ false → get_or (all_placed places ns place) n 0 ≡ get_or places n 0
placed_out places [] place n h = refl
placed_out places (m ∷ ns) place n h =
    let parts = or_parts (m == n) (is_in ns n) h in
    placed_out (slice_set places m place) ns place n parts.1
    ∙ get_or-set_other places m n place 0 (λ e. false≢true (sym parts.0 ∙ eq-eqb m n (sym e)))

pub placed_in : (places ns : List ℕ) (place n : ℕ) → n < length places → is_in ns n ≡ true → get_or (all_placed places ns place) n 0 ≡ place
placed_in places [] place n inside h = absurd (false≢true h)
placed_in places (m ∷ ns) place n inside h = elim (cases_Bool (is_in ns n)) [
  | inl t ↦ placed_in (slice_set places m place) ns place n (omega (arith, inside, length-set places m place)) t
  | inr f ↦ elim (in_cases m n ns h) [
    | inl e ↦ placed_out (slice_set places m place) ns place n f
        ∙ subst (λ k. get_or (slice_set places m place) k 0 ≡ place) e (get_or-set_same places m place 0 (subst (λ k. k < length places) (sym e) inside))
    | inr t ↦ absurd (false≢true (sym f ∙ t))
  ]
]

pub length_placed_from : (places : List ℕ) (level : List Interval) (place : ℕ) → length (placed_from places level place) ≡ length places
length_placed_from places [] place = refl
length_placed_from places (i ∷ level) place = length_placed_from (all_placed places i.members place) level (place + 1) ∙ length_all_placed places i.members place

pub length_places : (count : ℕ) (level : List Interval) → length (places_of count level) ≡ count
length_places count level = length_placed_from (replicate count 0) level 0 ∙ length-replicate {A = ℕ} count 0

from_out : (places : List ℕ) (level : List Interval) (place n : ℕ) → ((j : ℕ) → is_in (members_at level j) n ≡ false)
    → get_or (placed_from places level place) n 0 ≡ get_or places n 0
from_out places [] place n out = refl
from_out places (i ∷ level) place n out =
    from_out (all_placed places i.members place) level (place + 1) n (λ j. out (suc j)) ∙ placed_out places i.members place n (out 0)

from_in : (places : List ℕ) (level : List Interval) (place k n : ℕ) → n < length places → is_in (members_at level k) n ≡ true
    → ((j : ℕ) → is_in (members_at level j) n ≡ true → j ≡ k) → get_or (placed_from places level place) n 0 ≡ place + k
from_in places [] place k n inside h one = absurd (false≢true h)
from_in places (i ∷ level) place zero n inside h one =
    let after = all_placed places i.members place in
    let here : get_or after n 0 ≡ place = placed_in places i.members place n inside h in
    let rest = from_out after level (place + 1) n (λ j. false_from_ne_true (is_in (members_at level j) n) (λ t. let e : suc j ≡ 0 = one (suc j) t in omega (arith, e))) in
    omega (arith, here, rest)
from_in places (i ∷ level) place (suc k) n inside h one =
    let after = all_placed places i.members place in
    let rest = from_in after level (place + 1) k n (omega (arith, inside, length_all_placed places i.members place)) h (λ j t. let e : suc j ≡ suc k = one (suc j) t in omega (arith, e)) in
    omega (arith, rest)

-- Marks that are taken away.

pub length_cleared : (marks : List Bool) (ns : List ℕ) → length (all_cleared marks ns) ≡ length marks
length_cleared marks [] = refl
length_cleared marks (n ∷ ns) = length_cleared (slice_set marks n false) ns ∙ length-set marks n false

cleared_at : (marks : List Bool) (ns : List ℕ) (n : ℕ) → (get_or marks n false ≡ true → is_in ns n ≡ true) → n < length marks → get_or (all_cleared marks ns) n false ≡ false
cleared_at marks [] n covers inside = false_from_ne_true (get_or marks n false) (λ t. false≢true (covers t))
cleared_at marks (m ∷ ns) n covers inside =
    cleared_at (slice_set marks m false) ns n
    (λ t. elim (cases_eq m n) [
      | inl e ↦ absurd (false≢true (sym (subst (λ k. get_or (slice_set marks m false) k false ≡ false) e (get_or-set_same marks m false false (subst (λ k. k < length marks) (sym e) inside))) ∙ t))
      | inr o ↦ elim (in_cases m n ns (covers (sym (get_or-set_other marks m n false false (λ e. o (sym e))) ∙ t))) [ inl e ↦ absurd (o e) | inr r ↦ r ]
    ])
    (omega (arith, inside, length-set marks m false))

-- where all that is marked is listed, nothing is marked afterwards
pub all_cleared_are : (marks : List Bool) (ns : List ℕ) → ((n : ℕ) → get_or marks n false ≡ true → is_in ns n ≡ true) → all_cleared marks ns ≡ replicate (length marks) false
all_cleared_are marks ns covers =
    let size = length-replicate {A = Bool} (length marks) false in
    ext_get_or false (all_cleared marks ns) (replicate (length marks) false) (length_cleared marks ns ∙ sym size)
    (λ i inside.
    let less : i < length marks = omega (arith, inside, length_cleared marks ns) in
    cleared_at marks ns i (covers i) less ∙ sym (get_or-replicate (length marks) i false false less))

-- Rows.

others_are : (places : List ℕ) (place : ℕ) (ns : List ℕ) (b : ℕ)
    → is_in (others places place ns) b ≡ (not (place == b) && list_any (λ n. get_or places n 0 == b) ns)
others_are places place [] b = sym (none (not (place == b)))
  where
    none : (x : Bool) → (x && false) ≡ false
    none true = refl
    none false = refl
others_are places place (n ∷ ns) b = by_test (λ l. is_in l b ≡ (not (place == b) && ((get_or places n 0 == b) || list_any (λ k. get_or places k 0 == b) ns)))
    (get_or places n 0 == place) (others places place ns) (get_or places n 0 ∷ others places place ns)
    (λ t. others_are places place ns b ∙ own (place == b) (get_or places n 0 == b) (list_any (λ k. get_or places k 0 == b) ns)
    (λ e. eq-eqb place b (sym (eqb-true (get_or places n 0) place t) ∙ eqb-true (get_or places n 0) b e)))
    (λ f. ap (λ x. (get_or places n 0 == b) || x) (others_are places place ns b) ∙ other (place == b) (get_or places n 0 == b) (list_any (λ k. get_or places k 0 == b) ns)
    (λ e. ne_eqb place b (λ s. false≢true (sym f ∙ eq-eqb (get_or places n 0) place (eqb-true (get_or places n 0) b e ∙ sym s)))))
  where
    own : (x y l : Bool) → (y ≡ true → x ≡ true) → (not x && l) ≡ (not x && (y || l))
    own true y l h = refl
    own false true l h = absurd (false≢true (h refl))
    own false false l h = refl

    other : (x y l : Bool) → (y ≡ true → x ≡ false) → (y || (not x && l)) ≡ (not x && (y || l))
    other x true l h = sym (ap (λ b. not b && true) (h refl))
    other true false l h = refl
    other false false l h = refl

pub same_test : (x y : Bool) → (x ≡ true → y ≡ true) → (y ≡ true → x ≡ true) → x ≡ y
same_test true y f g = sym (f refl)
same_test false true f g = g refl
same_test false false f g = refl

module _ (next : List (List ℕ)) (entry : ℕ) (within : AreWithin next) (inside : entry < length next) (level : List Interval) (are : AreIntervals (leads next) entry level) where
  member_reached : (a n : ℕ) → is_in (members_at level a) n ≡ true → IsReached (leads next) entry n
  member_reached a n h =
      let there = members_within level a n h in
      reached_within (leads next) entry (header_reached (leads next) entry (header_is (leads next) entry level are a there)) ((exact_at (leads next) entry level are a there n).0 h)

  pub member_inside : (a n : ℕ) → is_in (members_at level a) n ≡ true → n < length next
  member_inside a n h = reached_inside next entry within inside (member_reached a n h)

  place_is : (a n : ℕ) → is_in (members_at level a) n ≡ true → get_or (places_of (length next) level) n 0 ≡ a
  place_is a n h =
      let size = length-replicate {A = ℕ} (length next) 0 in
      from_in (replicate (length next) 0) level 0 a n (omega (arith, member_inside a n h, size)) h (λ j t. one_holds (leads next) entry level are j a n t h)
      ∙ zero-add a

  -- a node that follows a member is in an interval
  follower_held : (a n : ℕ) → is_in (followers next (members_at level a)) n ≡ true
      → (b : ℕ) × (b < length level) × (is_in (members_at level b) n ≡ true) × (get_or (places_of (length next) level) n 0 ≡ b)
  follower_held a n h =
      let some = some_passes (λ m. leads next m n) (members_at level a) (sym (in_followers next (members_at level a) n) ∙ h) in
      let there = covered (leads next) entry level are (along (member_reached a some.0 some.1) some.2) in
      (there.0, there.1, there.2, place_is there.0 n there.2)

  pub followers_within : (a : ℕ) → All (λ n. n < length next) (followers next (members_at level a))
  followers_within a = All-from_get_or (λ n. n < length next) (followers next (members_at level a)) 0 (λ i less.
      let held = follower_held a (get_or (followers next (members_at level a)) i 0) (in_at (followers next (members_at level a)) i less) in
      member_inside held.0 (get_or (followers next (members_at level a)) i 0) held.2)

  pub places_within : (a : ℕ) → All (λ n. get_or (places_of (length next) level) n 0 < length level) (followers next (members_at level a))
  places_within a = All-from_get_or (λ n. get_or (places_of (length next) level) n 0 < length level) (followers next (members_at level a)) 0 (λ i less.
      let held = follower_held a (get_or (followers next (members_at level a)) i 0) (in_at (followers next (members_at level a)) i less) in
      subst (λ b. b < length level) (sym held.3) held.1)

  others_within : (a : ℕ) → All (λ p. p < length (nothing_noted (length level)).marks) (others (places_of (length next) level) a (followers next (members_at level a)))
  others_within a =
      let places = places_of (length next) level in
      let ns = followers next (members_at level a) in
      let listed = others places a ns in
      let size = length-replicate {A = Bool} (length level) false in
      All-from_get_or (λ p. p < length (nothing_noted (length level)).marks) listed 0 (λ i less.
      let p = get_or listed i 0 in
      let here = and_parts (not (a == p)) (list_any (λ n. get_or places n 0 == p) ns) (sym (others_are places a ns p) ∙ in_at listed i less) in
      let some = some_passes (λ n. get_or places n 0 == p) ns here.1 in
      let held = follower_held a some.0 some.1 in
      let same : p ≡ held.0 = sym (eqb-true (get_or places some.0 0) p some.2) ∙ held.3 in
      omega (arith, same, held.1, size))

  row_edges : (a b : ℕ) → is_in (row_of next (places_of (length next) level) (length level) a (members_at level a)) b ≡ collapsed (leads next) level a b
  row_edges a b =
      let places = places_of (length next) level in
      let ns = followers next (members_at level a) in
      let listed = others places a ns in
      let k : Notes (nothing_noted (length level)) (with_all_noted (nothing_noted (length level)) listed) listed = notes (nothing_noted (length level)) listed (others_within a) in
      k.list b
      ∙ ap (λ m. is_in listed b && not m) (none_marked (length level) b)
      ∙ kept (is_in listed b)
      ∙ others_are places a ns b
      ∙ ap (λ x. not (a == b) && x) (same_test (list_any (λ n. get_or places n 0 == b) ns) (leads_between (leads next) (members_at level a) (members_at level b))
      (λ t.
      let some = some_passes (λ n. get_or places n 0 == b) ns t in
      let held = follower_held a some.0 some.1 in
      let same : held.0 ≡ b = sym held.3 ∙ eqb-true (get_or places some.0 0) b some.2 in
      let from = some_passes (λ m. leads next m some.0) (members_at level a) (sym (in_followers next (members_at level a) some.0) ∙ some.1) in
      passes_at (λ m. list_any (leads next m) (members_at level b)) (members_at level a) from.0 from.1
      (passes_at (leads next from.0) (members_at level b) some.0 (subst (λ x. is_in (members_at level x) some.0 ≡ true) same held.2) from.2))
      (λ t.
      let from = some_passes (λ m. list_any (leads next m) (members_at level b)) (members_at level a) t in
      let to = some_passes (leads next from.0) (members_at level b) from.2 in
      passes_at (λ n. get_or places n 0 == b) ns to.0
      (in_followers next (members_at level a) to.0 ∙ passes_at (λ m. leads next m to.0) (members_at level a) from.0 from.1 to.2)
      (eq-eqb (get_or places to.0 0) b (place_is b to.0 to.1))))
    where
      kept : (x : Bool) → (x && not false) ≡ x
      kept true = refl
      kept false = refl

  pub collapsed_is : (graph : List (List ℕ)) → length graph ≡ length level
      → ((a : ℕ) → a < length level → get_or graph a [] ≡ row_of next (places_of (length next) level) (length level) a (members_at level a))
      → AreCollapsed next level graph
  collapsed_is graph size rows_are = record {
    count = size;
    within = All-from_get_or (λ row. All (λ b. b < length graph) row) graph [] (λ a less. All-from_get_or (λ b. b < length graph) (get_or graph a []) 0 (λ i there.
        let b = get_or (get_or graph a []) i 0 in
        let edge = and_parts (not (a == b)) (leads_between (leads next) (members_at level a) (members_at level b)) (sym (edges a b) ∙ in_at (get_or graph a []) i there) in
        let from = some_passes (λ m. list_any (leads next m) (members_at level b)) (members_at level a) edge.1 in
        let to = some_passes (leads next from.0) (members_at level b) from.2 in
        let there = members_within level b to.0 to.1 in
        omega (arith, there, size)));
    edges = edges;
  }
    where
      edges : (a b : ℕ) → leads graph a b ≡ collapsed (leads next) level a b
      edges a b = elim (cases_lt a (length level)) [
        | inl less ↦ ap (λ row. is_in row b) (rows_are a less) ∙ row_edges a b
        | inr past ↦
            let no_row = get_or_past graph a [] (omega (arith, past, size)) in
            let no_members : members_at level a ≡ [] = get_or_past (map (λ (i : Interval). i.members) level) a [] (omega (arith, past, length-map level (λ (i : Interval). i.members))) in
            ap (λ row. is_in row b) no_row ∙ sym (ap (λ ms. not (a == b) && leads_between (leads next) ms (members_at level b)) no_members ∙ none (not (a == b)))
      ]
        where
          none : (x : Bool) → (x && false) ≡ false
          none true = refl
          none false = refl

-- Steps of the loops.

pub places_begin : (count : ℕ) (level : List Interval) (places : List ℕ) → places ≡ replicate count 0 → placed_from places (drop 0 level) 0 ≡ places_of count level
places_begin count level places is = ap (λ l. placed_from l level 0) is

pub places_step : (xs : List IntervalOf) (p : ℕ) (r : IntervalOf) → p < length xs → r ≡ get_or xs p r → (old now nodes : List ℕ)
    → nodes ≡ r.members.items → now ≡ all_placed old nodes p
    → placed_from now (drop (p + 1) (intervals_in xs)) (p + 1) ≡ placed_from old (drop p (intervals_in xs)) p
places_step xs p r less read old now nodes nodes_are is =
    let first : get_or (intervals_in xs) p (interval_in r) ≡ interval_in r = get_or-map interval_in xs p r (interval_in r) less ∙ ap interval_in (sym read) in
    ap (λ l. placed_from l (drop (p + 1) (intervals_in xs)) (p + 1)) (is ∙ ap (λ ns. all_placed old ns p) (nodes_are ∙ ap (λ (i : Interval). i.members) (sym first)))
    ∙ sym (ap (λ l. placed_from old l p) (drop_more (intervals_in xs) p (interval_in r) (omega (arith, less, length-map xs interval_in))))

pub places_end : (count : ℕ) (xs : List IntervalOf) (p : ℕ) (places : List ℕ) → length xs ≤ p
    → placed_from places (drop p (intervals_in xs)) p ≡ places_of count (intervals_in xs) → places ≡ places_of count (intervals_in xs)
places_end count xs p places past h = sym (ap (λ l. placed_from places l p) (drop_all p (intervals_in xs) (omega (arith, past, length-map xs interval_in)))) ∙ h

pub others_step : (s : Noted) (places : List ℕ) (place : ℕ) (nodes : List ℕ) (i : ℕ) → i < length nodes → (after : Noted)
    → after ≡ (if get_or places (get_or nodes i 0) 0 == place then s else with_noted s (get_or places (get_or nodes i 0) 0))
    → with_all_noted after (others places place (drop (i + 1) nodes)) ≡ with_all_noted s (others places place (drop i nodes))
others_step s places place nodes i less after is =
    let p = get_or places (get_or nodes i 0) 0 in
    let rest = others places place (drop (i + 1) nodes) in
    ap (λ r. with_all_noted r rest) is
    ∙ both (p == place) rest p
    ∙ sym (ap (λ l. with_all_noted s (others places place l)) (drop_more nodes i 0 less))
  where
    both : (b : Bool) (rest : List ℕ) (p : ℕ) → with_all_noted (if b then s else with_noted s p) rest ≡ with_all_noted s (if b then rest else p ∷ rest)
    both true rest p = refl
    both false rest p = refl

pub others_count : (s : Noted) (p : ℕ) (same : Bool) (after : Noted) → after ≡ (if same then s else with_noted s p) → length after.marks ≡ length s.marks
others_count s p true after is = ap (λ (r : Noted). length r.marks) is
others_count s p false after is = ap (λ (r : Noted). length r.marks) is ∙ noted_count s p

others_append : (places : List ℕ) (place : ℕ) (ms ns : List ℕ) → others places place (ms ++ ns) ≡ others places place ms ++ others places place ns
others_append places place [] ns = refl
others_append places place (m ∷ ms) ns = both (get_or places m 0 == place) (get_or places m 0) (others_append places place ms ns)
  where
    both : (b : Bool) (p : ℕ) → others places place (ms ++ ns) ≡ others places place ms ++ others places place ns
        → (if b then others places place (ms ++ ns) else p ∷ others places place (ms ++ ns))
        ≡ (if b then others places place ms else p ∷ others places place ms) ++ others places place ns
    both true p e = e
    both false p e = ap (λ l. p ∷ l) e

pub row_step : (next : List (List ℕ)) (places : List ℕ) (place : ℕ) (members : List ℕ) (i : ℕ) → i < length members → (s after : Noted) (row : List ℕ)
    → row ≡ get_or next (get_or members i 0) [] → after ≡ with_all_noted s (others places place row)
    → with_all_noted after (others places place (followers next (drop (i + 1) members))) ≡ with_all_noted s (others places place (followers next (drop i members)))
row_step next places place members i less s after row row_is is =
    let rest = followers next (drop (i + 1) members) in
    ap (λ r. with_all_noted r (others places place rest)) is
    ∙ sym (noted_append s (others places place row) (others places place rest))
    ∙ ap (with_all_noted s) (sym (others_append places place row rest) ∙ ap (λ r. others places place (r ++ rest)) row_is)
    ∙ sym (ap (λ l. with_all_noted s (others places place (followers next l))) (drop_more members i 0 less))

all_front : (P : ℕ → Type 0) (xs ys : List ℕ) → All P (xs ++ ys) → All P xs
all_front P xs ys h = All-from_get_or P xs 0 (λ i less.
    subst P (get_or_append_left xs ys 0 i less) (All-get_or P (xs ++ ys) i 0 (omega (arith, less, length-append xs ys)) h))

all_back : (P : ℕ → Type 0) (xs ys : List ℕ) → All P (xs ++ ys) → All P ys
all_back P xs ys h = All-from_get_or P ys 0 (λ i less.
    subst P (get_or-append-add xs ys i 0) (All-get_or P (xs ++ ys) (length xs + i) 0 (omega (arith, less, length-append xs ys)) h))

pub row_end : (next : List (List ℕ)) (places : List ℕ) (place : ℕ) (members : List ℕ) (i : ℕ) → length members ≤ i → (s first : Noted)
    → with_all_noted s (others places place (followers next (drop i members))) ≡ with_all_noted first (others places place (followers next members))
    → s ≡ with_all_noted first (others places place (followers next members))
row_end next places place members i past s first h = sym (ap (λ l. with_all_noted s (others places place (followers next l))) (drop_all i members past)) ∙ h

-- what holds of all that follow these nodes holds of all that follow one
pub all_followers : (P : ℕ → Type 0) (next : List (List ℕ)) (ms : List ℕ) (i : ℕ) → i < length ms → All P (followers next ms) → All P (get_or next (get_or ms i 0) [])
all_followers P next [] i less h = absurd (omega arith)
all_followers P next (m ∷ ms) zero less h = all_front P (get_or next m []) (followers next ms) h
all_followers P next (m ∷ ms) (suc i) less h = all_followers P next ms i (omega (arith, less)) (all_back P (get_or next m []) (followers next ms) h)

-- what was noted of so many is below their number, and can be taken back
pub record IsTaken (count : ℕ) (s : Noted) : Type 0 where
  pub listed : All (λ n. n < length s.marks) s.list
  pub cleared : all_cleared s.marks s.list ≡ replicate count false

pub taken : (count : ℕ) (ns : List ℕ) (s : Noted) → All (λ n. n < count) ns → s ≡ with_all_noted (nothing_noted count) ns → IsTaken count s
taken count ns s below is =
    let none = nothing_noted count in
    let size = length-replicate {A = Bool} count false in
    let k : Notes none (with_all_noted none ns) ns = notes none ns (subst (λ c. All (λ n. n < c) ns) (sym size) below) in
    let marks_size : length (with_all_noted none ns).marks ≡ count = k.count ∙ size in
    subst (IsTaken count) (sym is) (record {
      listed = All-from_get_or (λ n. n < length (with_all_noted none ns).marks) (with_all_noted none ns).list 0 (λ i less.
          let n = get_or (with_all_noted none ns).list i 0 in
          let there = and_parts (is_in ns n) (not (get_or none.marks n false)) (sym (k.list n) ∙ in_at (with_all_noted none ns).list i less) in
          let place = place_of ns n there.0 in
          let small : get_or ns place.0 0 < count = below place.0 0 place.1 in
          omega (arith, small, place.2, marks_size));
      cleared = all_cleared_are (with_all_noted none ns).marks (with_all_noted none ns).list (λ n t.
          let there : is_in ns n ≡ true = sym (ap (λ b. b || is_in ns n) (none_marked count n)) ∙ sym (k.marks n) ∙ t in
          k.list n ∙ and_from (is_in ns n) (not (get_or none.marks n false)) there (ap not (none_marked count n)))
          ∙ ap (λ c. replicate c false) marks_size;
    })

-- what is not one of these places is below the number, where all are
pub others_below : (places : List ℕ) (place count : ℕ) (ns : List ℕ) → All (λ n. get_or places n 0 < count) ns → All (λ p. p < count) (others places place ns)
others_below places place count [] h = All-nil (λ p. p < count)
others_below places place count (n ∷ ns) h = by_test (All (λ p. p < count)) (get_or places n 0 == place) (others places place ns) (get_or places n 0 ∷ others places place ns)
    (λ t. others_below places place count ns (All-tail (λ k. get_or places k 0 < count) n ns h))
    (λ f. All-cons (λ p. p < count) (get_or places n 0) (others places place ns) (All-head (λ k. get_or places k 0 < count) n ns h) (others_below places place count ns (All-tail (λ k. get_or places k 0 < count) n ns h)))

-- the values so far, and one more
pub pushed_at : {X : Type 0} (f : ℕ → X) (xs : List X) (x d : X) (place : ℕ) → length xs ≡ place → ((a : ℕ) → a < place → get_or xs a d ≡ f a) → x ≡ f place
    → (a : ℕ) → a < place + 1 → get_or (xs ++ x ∷ []) a d ≡ f a
pushed_at f xs x d place size are is a less = elim (cases_lt a place) [
  | inl before ↦ get_or_append_left xs (x ∷ []) d a (omega (arith, before, size)) ∙ are a before
  | inr past ↦
      let same : place ≡ a = omega (arith, past, less) in
      subst (λ k. get_or (xs ++ x ∷ []) k d ≡ f k) same (get_or_push xs x d place size ∙ is)
]

-- the rows so far, and one more
pub rows_push : (f : ℕ → List ℕ) (graph : List (List ℕ)) (row : List ℕ) (place : ℕ) → length graph ≡ place → ((a : ℕ) → a < place → get_or graph a [] ≡ f a) → row ≡ f place
    → (a : ℕ) → a < place + 1 → get_or (graph ++ row ∷ []) a [] ≡ f a
rows_push f graph row place size rows_are is = pushed_at f graph row [] place size rows_are is
