use Rattle.std.proofs.Common.{◌≡◌, ℕ, ◌-◌, ◌<◌, ◌≤◌, suc, List, length, drop, map, get_or, slice_get, Option, Some, None, Bor, IfSome, MatchOption, sym, ap, ◌∙◌, arith}
use Rattle.std.specs.Prelude.{option_map}
use Rattle.std.specs.Option.{option_copied}
use Rattle.std.specs.List.{HoldsAt}
use Rattle.std.proofs.lemmas.Option.{slice_get-map, slice_get_past, slice_get_read}
use Rattle.dcc_ir.specs.Views.{graph_of, summary_of}
use Rattle.dcc_localise.specs.Staying.{stays_at, stays_of, summary_or_none, places_of}
use Rattle.dcc_localise.proofs.StayingLaws.{put, tells}
use Rattle.dcc_localise.proofs.staying.Staying.new.Goals as goal

-- what a look-up in a list gives
read :
    {A : Type 0} (xs : List A) (k : ℕ) (r : Option (Bor A))
    → IfSome r (λ x. x.now ≡ get_or xs k x.now) → MatchOption r (length xs ≤ k) (λ x. (k < length xs) × HoldsAt (λ y. x.now ≡ y) xs k)
    → option_copied r ≡ slice_get xs k
read xs k None same past = sym (slice_get_past xs k past)
read xs k (Some x) same here = sym (slice_get_read xs (length xs) k x.now (omega arith) here.0 same)

pub loop-place-preserved : goal.loop-place-preserved
loop-place-preserved c =
    let graphs = c.args.p.now.graphs.items in
    let sums = c.args.sums.now.of.items in
    let k = c.loop-place.place - 1 in
    let graph = c.index-graph.result.now in
    let stays = c.in_ok-stays.stays in
    let next : c.loop-place.place ≡ suc k = omega (arith, c.loop-place-test.true) in
    let inside : k < length graphs = omega (arith, c.loop-place-test.true, c.loop-place.auto.place, c.len-place.ensures) in
    let found : slice_get (map graph_of graphs) k ≡ Some (graph_of graph) =
    slice_get-map graph_of graphs k ∙ ap (option_map graph_of) (slice_get_read graphs (length graphs) k graph (omega arith) inside c.index-graph.ensures) in
    let is : places_of stays ≡ stays_of (graph_of graph) (summary_or_none (slice_get (map summary_of sums) k)) =
    c.in_ok-stays.ensures
    ∙ ap (λ s. stays_of (graph_of graph) (summary_or_none s)) (ap (option_map summary_of) (read c.deref.result.now k c.get.result c.get.ensures.lookup.1 c.get.ensures.lookup.3 ∙ ap (λ l. slice_get l k) c.deref.ensures.value) ∙ sym (slice_get-map summary_of sums k)) in
    put (map graph_of graphs) (map summary_of sums) k (graph_of graph) stays c.loop-place.by_entry.entries c.put.new.by_entry.entries found is
    c.in_ok-put.ensures.0 (λ entry. c.loop-place.invariant entry ∙ ap (λ n. stays_at (drop n (map graph_of graphs)) (drop n (map summary_of sums)) entry) next)

pub returns : goal.returns
returns c =
    let graphs = map graph_of c.args.p.now.graphs.items in
    let sums = map summary_of c.args.sums.now.of.items in
    let first : c.loop-place.place ≡ 0 = omega (arith, c.loop-place-test.false) in
    tells c.loop-place.by_entry.entries graphs sums (λ entry. c.loop-place.invariant entry ∙ ap (λ n. stays_at (drop n graphs) (drop n sums) entry) first)
