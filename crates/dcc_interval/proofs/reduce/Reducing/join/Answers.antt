use Rattle.std.proofs.Common.{◌≡◌, ℕ, ◌<◌, true, false, List, [], length, get_or, All, refl, sym, ap, ◌∙◌, subst, arith}
use Rattle.std.specs.Prelude.{◌==◌}
use Rattle.std.specs.List.{list_any}
use Rattle.std.specs.Vec.{with_item}
use Rattle.std.specs.Global.{Vec}
use Rattle.std.proofs.lemmas.Bool.{false≢true}
use Rattle.dcc_flow.specs.Edges.{rows, AreWithin}
use Rattle.dcc_flow.proofs.RowLaws.{row_read, length_rows}
use Rattle.dcc_interval.specs.Graphs.{IsReached}
use Rattle.dcc_interval.specs.Reducing.{regions_of, AreRegions, comes_to, may_join, at_in}
use Rattle.dcc_interval.proofs.ReachLaws.{row_within}
use Rattle.dcc_interval.proofs.TryLaws.{below, IsTry, into_is, entry_done, stuck_done, try_on}
use Rattle.dcc_interval.proofs.reduce.Reducing.join.Goals as goal

place_below : (vs : List (Vec ℕ)) (entry node : ℕ) → entry < length vs → IsReached (comes_to (rows vs)) entry node → node < length vs
place_below vs entry node inside reached =
    let there = below (rows vs) entry (omega (arith, inside, length_rows vs)) reached in
    omega (arith, there, length_rows vs)

-- the nodes before the node, as the code reads them
row_is : (vs : List (Vec ℕ)) (node : ℕ) (row : Vec ℕ) (slice : List ℕ) → node < length vs → row ≡ get_or vs node row → slice ≡ row.items → slice ≡ get_or (rows vs) node []
row_is vs node row slice inside read is = is ∙ row_read vs node row inside read

row_below : (vs : List (Vec ℕ)) (node count : ℕ) (slice : List ℕ) → AreWithin (rows vs) → count ≡ length (rows vs) → slice ≡ get_or (rows vs) node [] → All (λ n. n < count) slice
row_below vs node count slice within size is =
    subst (λ l. All (λ n. n < count) l) (sym is) (subst (λ k. All (λ n. n < k) (get_or (rows vs) node [])) (sym size) (row_within (rows vs) within node))

pub index-requires : goal.index-requires
index-requires c =
    let there = place_below c.args.sources.now.items c.args.entry c.args.node c.requires.entry c.requires.reached in
    omega (arith, there)

pub of-requires-clause-node : goal.of-requires-clause-node
of-requires-clause-node c =
    let vs = c.args.sources.now.items in
    let there = place_below vs c.args.entry c.args.node c.requires.entry c.requires.reached in
    omega (arith, there, length_rows vs, c.requires.reducing.whole.numbers)

pub has_one-requires-clause-nodes : goal.has_one-requires-clause-nodes
has_one-requires-clause-nodes c =
    let vs = c.args.sources.now.items in
    let there = place_below vs c.args.entry c.args.node c.requires.entry c.requires.reached in
    row_below vs c.args.node (length c.args.self.now.regions.numbers.items) c.as_slice-before.result.now c.requires.within c.requires.reducing.whole.numbers
    (row_is vs c.args.node c.index.result.now c.as_slice-before.result.now there c.index.ensures c.as_slice-before.ensures.value)

pub only_before-requires-clause-sources : goal.only_before-requires-clause-sources
only_before-requires-clause-sources c =
    let vs = c.args.sources.now.items in
    let there = place_below vs c.args.entry c.args.node c.requires.entry c.requires.reached in
    row_below vs c.args.node (length c.args.self.now.regions.numbers.items) c.as_slice-before.result.now c.requires.within c.requires.reducing.whole.numbers
    (row_is vs c.args.node c.index.result.now c.as_slice-before.result.now there c.index.ensures c.as_slice-before.ensures.value)

pub returns-then-node-entry-clause-done : goal.returns-then-node-entry-clause-done
returns-then-node-entry-clause-done c = λ kept.
    let vs = c.args.sources.now.items in
    let r = c.args.self.now in
    let node = c.args.node in
    let there = place_below vs c.args.entry node c.requires.entry c.requires.reached in
    let row = row_is vs node c.index.result.now c.as_slice-before.result.now there c.index.ensures c.as_slice-before.ensures.value in
    let given : IsTry (rows vs) c.args.entry r node =
    record { inside = omega (arith, c.requires.entry, length_rows vs); reducing = c.requires.reducing; reached = c.requires.reached; own = sym c.of.ensures ∙ c.if-of-place.false } in
    entry_done (rows vs) c.args.entry r node given (with_item r.headers node c.has_one.result) c.has_one.result
    (c.has_one.ensures ∙ ap (list_any (λ m. at_in r m == node)) row) refl c.if-node-entry.true

pub returns-in_default-clause-done : goal.returns-in_default-clause-done
returns-in_default-clause-done c = λ kept.
    let vs = c.args.sources.now.items in
    let r = c.args.self.now in
    let node = c.args.node in
    let there = place_below vs c.args.entry node c.requires.entry c.requires.reached in
    let row = row_is vs node c.index.result.now c.as_slice-before.result.now there c.index.ensures c.as_slice-before.ensures.value in
    let given : IsTry (rows vs) c.args.entry r node =
    record { inside = omega (arith, c.requires.entry, length_rows vs); reducing = c.requires.reducing; reached = c.requires.reached; own = sym c.of.ensures ∙ c.if-of-place.false } in
    stuck_done (rows vs) c.args.entry r node given (with_item r.headers node c.has_one.result) c.has_one.result
    (c.has_one.ensures ∙ ap (list_any (λ m. at_in r m == node)) row) refl
    (λ into. subst (λ l. may_join (at_in r) l node into ≡ false) row (c.in_default.ensures.none into))

pub join-requires-clause-into : goal.join-requires-clause-into
join-requires-clause-into c =
    let vs = c.args.sources.now.items in
    let r = c.args.self.now in
    let node = c.args.node in
    let into = c.in-Some.into in
    let there = place_below vs c.args.entry node c.requires.entry c.requires.reached in
    let row = row_is vs node c.index.result.now c.as_slice-before.result.now there c.index.ensures c.as_slice-before.ensures.value in
    let given : IsTry (rows vs) c.args.entry r node =
    record { inside = omega (arith, c.requires.entry, length_rows vs); reducing = c.requires.reducing; reached = c.requires.reached; own = sym c.of.ensures ∙ c.if-of-place.false } in
    let less = (into_is (rows vs) c.args.entry r node given into (subst (λ l. may_join (at_in r) l node into ≡ true) row c.in-Some.ensures.some)).0 in
    omega (arith, less, c.requires.reducing.whole.numbers)

pub join-requires-clause-other : goal.join-requires-clause-other
join-requires-clause-other c =
    let vs = c.args.sources.now.items in
    let r = c.args.self.now in
    let node = c.args.node in
    let into = c.in-Some.into in
    let there = place_below vs c.args.entry node c.requires.entry c.requires.reached in
    let row = row_is vs node c.index.result.now c.as_slice-before.result.now there c.index.ensures c.as_slice-before.ensures.value in
    let given : IsTry (rows vs) c.args.entry r node =
    record { inside = omega (arith, c.requires.entry, length_rows vs); reducing = c.requires.reducing; reached = c.requires.reached; own = sym c.of.ensures ∙ c.if-of-place.false } in
    (into_is (rows vs) c.args.entry r node given into (subst (λ l. may_join (at_in r) l node into ≡ true) row c.in-Some.ensures.some)).1

pub returns : goal.returns
returns c =
    let vs = c.args.sources.now.items in
    let r = c.args.self.now in
    let node = c.args.node in
    let into = c.in-Some.into in
    let there = place_below vs c.args.entry node c.requires.entry c.requires.reached in
    let row = row_is vs node c.index.result.now c.as_slice-before.result.now there c.index.ensures c.as_slice-before.ensures.value in
    let given : IsTry (rows vs) c.args.entry r node =
    record { inside = omega (arith, c.requires.entry, length_rows vs); reducing = c.requires.reducing; reached = c.requires.reached; own = sym c.of.ensures ∙ c.if-of-place.false } in
    let numbers = c.requires.reducing.whole.numbers in
    let on = try_on (rows vs) c.args.entry r node given (with_item r.headers node c.has_one.result) c.has_one.result
    (c.has_one.ensures ∙ ap (list_any (λ m. at_in r m == node)) row) refl c.if-node-entry.false into
    (subst (λ l. may_join (at_in r) l node into ≡ true) row c.in-Some.ensures.some) c.join.new.self c.push.new.self
    (subst (λ k. AreRegions k (regions_of c.join.new.self)) numbers c.in_ok-join.ensures.whole) (λ n less. c.in_ok-join.ensures.joined n (omega (arith, less, numbers))) in
    record {
      reducing = on.reducing;
      gone = λ gone. on.gone;
      fewer = on.fewer;
      same = λ kept n off done. absurd (false≢true (sym kept));
      done = λ kept. absurd (false≢true (sym kept));
    }
