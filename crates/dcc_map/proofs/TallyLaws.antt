-- What a tally holds after one event more, and the pairs that it gives.
use Rattle.std.proofs.Common.{◌≡◌, ◌≢◌, ◌⊎◌, inl, inr, ℕ, zero, suc, ◌+◌, ◌<◌, ◌≤◌, ◌^◌, Bool, true, false, List, [], ◌∷◌, ◌++◌, length, map, Option, Some, None, refl, sym, ap, ◌∙◌, subst, arith, length-append}
use Rattle.std.specs.Prelude.{◌==◌, ◌&&◌, cond, All, count_by, nat_lt}
use Rattle.std.specs.Option.{unwrap_or}
use Rattle.std.specs.declared.cmp.Ordering.{Ordering}
use Rattle.std.specs.declared.cmp.Ordering.TheVariants.{Less, Equal, Greater}
use Rattle.std.specs.Ordering.{is_eq, nat_cmp, ordering_then}
use Rattle.std.specs.List.Sorted.{IsStrictlySortedBy}
use Rattle.std.specs.List.{AllByRecursion}
use Rattle.std.specs.Map.{lookup, keys_of, values_of}
use Rattle.std.specs.BTreeMap.{BTreeMap, get, values, insert_entry}
use Rattle.std.proofs.lemmas.Bool.Decides.{nat_tests}
use Rattle.std.proofs.lemmas.List.{map-append}
use Rattle.std.proofs.lemmas.Map.Views.{All-values-insert_entry}
use Rattle.std.proofs.lemmas.List.Sums.{sum_by-append, count_by-le-length}
use Rattle.dcc_run.specs.Event.{Event as RunEvent, Wrote, Took, MetEnd, byte_written, written_by}
use Rattle.dcc_run.proofs.EventLaws.{written-append}
use Rattle.dcc_map.specs.declared.event.Event.{Event}
use Rattle.dcc_map.specs.declared.event.Event.TheVariants.{Wrote as Written, Took as Taken, MetEnd as NoKey}
use Rattle.dcc_map.specs.declared.report.Pair.{Pair}
use Rattle.dcc_map.specs.declared.tally.Tally.{Tally}
use Rattle.dcc_map.specs.Placed.{Placed, events_of}
use Rattle.dcc_map.specs.Comparison.{is_at, count_beside, count_in, pair_cmp, ArePairs}
use Rattle.dcc_map.specs.Agreed.{site_cmp, machine_half, beside, Tallies}
use Rattle.dcc_map.specs.Side.{event_of}
use Rattle.dcc_map.proofs.CommonLaws.{events-append}

-- Tests.

apart : (x y : ℕ) → nat_lt x y ≡ true → (x == y) ≡ false
apart x y less = grind (arith, nat_tests)

turned : (x y : ℕ) → (x == y) ≡ (y == x)
turned x y = grind (arith, nat_tests)

cmp_eq : (less same : Bool) → (less ≡ true → same ≡ false) → is_eq (cond less Less (cond same Equal Greater)) ≡ same
cmp_eq true same other = sym (other refl)
cmp_eq false true other = refl
cmp_eq false false other = refl

nat_cmp-eq : (x y : ℕ) → is_eq (nat_cmp x y) ≡ (x == y)
nat_cmp-eq x y = cmp_eq (nat_lt x y) (x == y) (apart x y)

then-eq : (o p : Ordering) → is_eq (ordering_then o p) ≡ (is_eq o && is_eq p)
then-eq Less p = refl
then-eq Equal p = refl
then-eq Greater p = refl

site-eq : (line at line' at' : ℕ) → is_eq (site_cmp (line, at) (line', at')) ≡ ((line == line') && (at == at'))
site-eq line at line' at' =
    then-eq (nat_cmp line line') (nat_cmp at at')
    ∙ ap (λ b. b && is_eq (nat_cmp at at')) (nat_cmp-eq line line')
    ∙ ap (λ b. (line == line') && b) (nat_cmp-eq at at')

both_true : (a b : Bool) → (a && b) ≡ true → (a ≡ true) × (b ≡ true)
both_true true b is = (refl, is)
both_true false b is = cc

same_numbers : (x y : ℕ) → (x == y) ≡ true → x ≡ y
same_numbers x y is = grind (arith, nat_tests)

-- Counts.

count-one : (line at line' at' : ℕ) (event : Event) (both : List (Placed × Placed))
    → count_beside line at (both ++ beside line' at' event ∷ []) ≡ count_beside line at both + cond ((line' == line) && (at' == at)) 1 0
count-one line at line' at' event both =
    let one = sum_by-append (λ p. cond (is_at line at p) 1 0) both (beside line' at' event ∷ []) in
    omega (arith, one)

pub counts_step : (m n : BTreeMap (ℕ × ℕ) ℕ) (both : List (Placed × Placed)) (line at v : ℕ) (event : Event)
    → ((l a : ℕ) → unwrap_or (get site_cmp m (l, a)) 0 ≡ count_beside l a both)
    → v ≡ unwrap_or (get site_cmp m (line, at)) 0 + 1
    → ((q : ℕ × ℕ) → get site_cmp n q ≡ cond (is_eq (site_cmp (line, at) q)) (Some v) (get site_cmp m q))
    → (l a : ℕ) → unwrap_or (get site_cmp n (l, a)) 0 ≡ count_beside l a (both ++ beside line at event ∷ [])
counts_step m n both line at v event had more updates l a =
    ap (λ o. unwrap_or o 0) (updates (l, a) ∙ ap (λ b. cond b (Some v) (get site_cmp m (l, a))) (site-eq line at l a))
    ∙ choose ((line == l) && (at == a)) refl
    ∙ sym (count-one l a line at event both)
  where
    choose : (b : Bool) → ((line == l) && (at == a)) ≡ b
        → unwrap_or (cond b (Some v) (get site_cmp m (l, a))) 0 ≡ count_beside l a both + cond b 1 0
    choose true is =
        let parts = both_true (line == l) (at == a) is in
        let key : unwrap_or (get site_cmp m (line, at)) 0 ≡ count_beside l a both =
        had line at ∙ ap (λ x. count_beside x at both) (same_numbers line l parts.0) ∙ ap (λ y. count_beside l y both) (same_numbers at a parts.1) in
        omega (arith, more, key)
    choose false is = let before = had l a in omega (arith, before)

pub count-few : (l a : ℕ) (both : List (Placed × Placed)) → count_beside l a both ≤ length both
count-few l a both = count_by-le-length (is_at l a) both

pub some_step : (v : ℕ) (had : ℕ) → v ≡ had + 1 → 0 < v
some_step v had is = omega (arith, is)

-- Bytes.

pub bytes_step : (both : List (Placed × Placed)) (line at : ℕ) (event : Event)
    → length (written_by (events_of (machine_half (both ++ beside line at event ∷ []))))
    ≡ length (written_by (events_of (machine_half both))) + length (byte_written (event_of event))
bytes_step both line at event =
    let half : machine_half (both ++ beside line at event ∷ []) ≡ machine_half both ++ record { at = at; event = event_of event } ∷ [] =
    map-append (λ (p : Placed × Placed). p.0) both (beside line at event ∷ []) in
    let events : events_of (machine_half (both ++ beside line at event ∷ [])) ≡ events_of (machine_half both) ++ event_of event ∷ [] =
    ap events_of half ∙ events-append (machine_half both) (record { at = at; event = event_of event } ∷ []) in
    ap (λ (l : List RunEvent). length (written_by l)) events
    ∙ ap (λ (l : List ℕ). length l) (written-append (events_of (machine_half both)) (event_of event ∷ []))
    ∙ length-append (written_by (events_of (machine_half both))) (written_by (event_of event ∷ []))
    ∙ ap (λ n. length (written_by (events_of (machine_half both))) + n) (one (event_of event))
  where
    one : (e : RunEvent) → length (written_by (e ∷ [])) ≡ length (byte_written e)
    one (Wrote byte) = refl
    one (Took byte) = refl
    one MetEnd = refl

written-few : (events : List RunEvent) → length (written_by events) ≤ length events
written-few [] = omega arith
written-few (Wrote byte ∷ events) = let few = written-few events in omega (arith, few)
written-few (Took byte ∷ events) = let few = written-few events in omega (arith, few)
written-few (MetEnd ∷ events) = let few = written-few events in omega (arith, few)

length-halves : (both : List (Placed × Placed)) → length (events_of (machine_half both)) ≡ length both
length-halves [] = refl
length-halves (p ∷ both) = ap suc (length-halves both)

pub bytes-few : (both : List (Placed × Placed)) → length (written_by (events_of (machine_half both))) ≤ length both
bytes-few both =
    let few = written-few (events_of (machine_half both)) in
    let long = length-halves both in
    omega (arith, few, long)

-- an event that writes no byte
pub not_written : (event : Event) → ((byte : ℕ) → event ≡ Written byte → ⊥) → length (byte_written (event_of event)) ≡ 0
not_written (Written byte) not = absurd (not byte refl)
not_written (Taken byte) not = refl
not_written NoKey not = refl

-- after one event more
pub tallied : (both : List (Placed × Placed)) (line at : ℕ) (event : Event) (old mid : Tally) (counts : BTreeMap (ℕ × ℕ) ℕ) (had v : ℕ)
    → length both < 2 ^ 63 → Tallies both old → mid.counts ≡ old.counts
    → (old.bytes < 2 ^ 63 → mid.bytes ≡ old.bytes + length (byte_written (event_of event)))
    → had ≡ unwrap_or (get site_cmp mid.counts (line, at)) 0 → (had < 2 ^ 63 → v ≡ had + 1)
    → ((q : ℕ × ℕ) → get site_cmp counts q ≡ cond (is_eq (site_cmp (line, at) q)) (Some v) (get site_cmp mid.counts q))
    → counts.entries ≡ insert_entry site_cmp mid.counts.entries (line, at) v
    → Tallies (both ++ beside line at event ∷ []) (record mid { counts = counts })
tallied both line at event old mid counts had v few tallies same bytes is more updates entries =
    let held : (l a : ℕ) → unwrap_or (get site_cmp mid.counts (l, a)) 0 ≡ count_beside l a both =
    λ l a. ap (λ m. unwrap_or (get site_cmp m (l, a)) 0) same ∙ tallies.counts l a in
    let known : had ≡ count_beside line at both = is ∙ held line at in
    let rare = count-few line at both in
    let one : v ≡ had + 1 = more (omega (arith, few, known, rare)) in
    let brief = bytes-few both in
    let written = bytes (let told = tallies.bytes in omega (arith, few, brief, told)) in
    record {
      bytes = written ∙ ap (λ n. n + length (byte_written (event_of event))) tallies.bytes ∙ sym (bytes_step both line at event);
      some =
          subst (λ (es : List ((ℕ × ℕ) × ℕ)). All (λ count. 0 < count) (values_of es)) (sym entries)
          (All-values-insert_entry site_cmp (line, at) v (λ count. 0 < count) mid.counts.entries
          (subst (λ (m : BTreeMap (ℕ × ℕ) ℕ). All (λ count. 0 < count) (values m)) (sym same) tallies.some) (omega (arith, one)));
      counts = counts_step mid.counts counts both line at v event held (one ∙ ap (λ n. n + 1) is) updates;
    }

-- Pairs.

abbrev pub pair_of : (ℕ × ℕ) × ℕ → Pair
pair_of entry = record { line = entry.0.0; at = entry.0.1; count = entry.1 }

pairs_counts : (entries : List ((ℕ × ℕ) × ℕ)) (line at : ℕ)
    → count_in (map pair_of entries) line at ≡ unwrap_or (lookup (λ k. is_eq (site_cmp (line, at) k)) entries) 0
pairs_counts [] line at = refl
pairs_counts (e ∷ entries) line at =
    let same : ((e.0.0 == line) && (e.0.1 == at)) ≡ is_eq (site_cmp (line, at) e.0) =
    ap (λ b. b && (e.0.1 == at)) (turned e.0.0 line) ∙ ap (λ b. (line == e.0.0) && b) (turned e.0.1 at) ∙ sym (site-eq line at e.0.0 e.0.1) in
    ap (λ b. cond b e.1 (count_in (map pair_of entries) line at)) same
    ∙ choose (is_eq (site_cmp (line, at) e.0)) (pairs_counts entries line at)
  where
    choose : (b : Bool)
        → count_in (map pair_of entries) line at ≡ unwrap_or (lookup (λ k. is_eq (site_cmp (line, at) k)) entries) 0
        → cond b e.1 (count_in (map pair_of entries) line at)
        ≡ unwrap_or (cond b (Some e.1) (lookup (λ k. is_eq (site_cmp (line, at) k)) entries)) 0
    choose true later = refl
    choose false later = later

below_all : (e : (ℕ × ℕ) × ℕ) (entries : List ((ℕ × ℕ) × ℕ)) → AllByRecursion (λ k. site_cmp e.0 k ≡ Less) (keys_of entries)
    → AllByRecursion (λ p. pair_cmp (pair_of e) p ≡ Less) (map pair_of entries)
below_all e [] below = below
below_all e (f ∷ entries) below = (below.0, below_all e entries below.1)

pairs_sorted : (entries : List ((ℕ × ℕ) × ℕ)) → IsStrictlySortedBy site_cmp (keys_of entries) → IsStrictlySortedBy pair_cmp (map pair_of entries)
unfolding IsStrictlySortedBy
pairs_sorted [] sorted = sorted
pairs_sorted (e ∷ entries) sorted = (below_all e entries sorted.0, pairs_sorted entries sorted.1)

pairs_some : (entries : List ((ℕ × ℕ) × ℕ)) → All (λ count. 0 < count) (values_of entries) → All (λ (p : Pair). 0 < p.count) (map pair_of entries)
pairs_some [] some k d less = absurd (omega (arith, less))
pairs_some (e ∷ entries) some zero d less = some 0 0 (omega arith)
pairs_some (e ∷ entries) some (suc k) d less =
    pairs_some entries (λ i x below. some (suc i) x (omega (arith, below))) k d (omega (arith, less))

pub pairs_are : (both : List (Placed × Placed)) (m : BTreeMap (ℕ × ℕ) ℕ) (pairs : List Pair) → pairs ≡ map pair_of m.entries
    → IsStrictlySortedBy site_cmp (keys_of m.entries) → All (λ count. 0 < count) (values m)
    → ((l a : ℕ) → unwrap_or (get site_cmp m (l, a)) 0 ≡ count_beside l a both) → ArePairs both pairs
pairs_are both m pairs is sorted some counts =
    subst (λ (ps : List Pair). ArePairs both ps) (sym is)
    (record {
      in_order = pairs_sorted m.entries sorted;
      some = pairs_some m.entries some;
      counts = λ line at. pairs_counts m.entries line at ∙ counts line at;
    })
