use Rattle.std.proofs.Common.{◌≡◌, ◌<◌, Bool, false, length, get_or, All, replicate, ap, refl, sym, ◌∙◌, subst, arith}
use Rattle.std.specs.Prelude.{◌==◌, ◌||◌}
use Rattle.std.specs.List.{list_all}
use Rattle.std.specs.Global.{Vec}
use Rattle.std.proofs.lemmas.List.Elements.{All-from_get_or}
use Rattle.dcc_flow.specs.Edges.{rows, leads}
use Rattle.dcc_flow.proofs.RowLaws.{length_rows}
use Rattle.dcc_interval.specs.Noted.{noted_of}
use Rattle.dcc_interval.specs.Reaching.{AreSources}
use Rattle.dcc_interval.specs.Reducing.{regions_of, AreAlone, AreRegions, at_in}
use Rattle.dcc_interval.specs.Reduction.{IsReduced}
use Rattle.dcc_interval.proofs.PlaceLaws.{in_at}
use Rattle.dcc_interval.proofs.ReachLaws.{turned_are}
use Rattle.dcc_interval.proofs.PartedLaws.{turned_within}
use Rattle.dcc_interval.proofs.PartingLaws.{reached_below}
use Rattle.dcc_interval.proofs.TryLaws.{below}
use Rattle.dcc_interval.proofs.ReducedLaws.{reducing_first, left_first, reduced_last}
use Rattle.dcc_interval.proofs.reduce.reduced.Goals as goal

pub sources-requires-clause-reached : goal.sources-requires-clause-reached
sources-requires-clause-reached c =
    let vs = c.args.next.now.items in
    let below = reached_below (rows vs) c.args.entry (noted_of c.in_ok-found.found) (length vs) c.requires.within (omega (arith, c.requires.entry, length_rows vs))
    c.in_ok-found.ensures (length_rows vs) in
    subst (λ l. All (λ n. n < length vs) l) (sym c.as_slice.ensures.value) below

pub finish-requires : goal.finish-requires
finish-requires c =
    let vs = c.args.next.now.items in
    let next = rows vs in
    let sources = rows c.in_ok-sources.sources.items in
    let reducing = c.in_ok-reducing.reducing in
    let inside : c.args.entry < length next = omega (arith, c.requires.entry, length_rows vs) in
    let listed = subst (λ l. AreSources next l sources) c.as_slice.ensures.value c.in_ok-sources.ensures in
    let graph = turned_are next c.args.entry (noted_of c.in_ok-found.found) sources c.requires.within inside c.in_ok-found.ensures listed in
    let size : c.len.result ≡ length next = omega (arith, length_rows vs) in
    let alone = subst (λ k. AreAlone k (regions_of reducing.regions)) size c.in_ok-reducing.ensures.regions in
    let none = c.in_ok-reducing.ensures.headers ∙ ap (λ k. replicate k false) size in
    record {
      within = turned_within next c.args.entry sources graph;
      entry = omega (arith, inside, graph.count, length_rows c.in_ok-sources.sources.items);
      reducing = reducing_first next c.args.entry sources graph reducing alone none;
      left = left_first next c.args.entry sources graph reducing (noted_of c.in_ok-found.found) c.in_ok-found.ensures c.in_ok-found.found.list.items refl;
    }

pub reduction_of-requires : goal.reduction_of-requires
reduction_of-requires c =
    let sources = rows c.in_ok-sources.sources.items in
    let now = c.finish.new.self in
    let reducing = c.in_ok-left.ensures.reducing in
    let left = c.in_ok-left.left.items in
    let inside : c.args.entry < length sources = omega (arith, c.requires.entry, length_rows c.args.next.now.items, c.in_ok-sources.ensures.count) in
    let numbers = reducing.whole.numbers in
    record {
      whole = subst (λ k. AreRegions k (regions_of now.regions)) (sym numbers) reducing.whole;
      left = subst (λ l. All (λ n. n < length now.regions.numbers.items) l) (sym c.as_slice-2.ensures.value)
          (All-from_get_or (λ n. n < length now.regions.numbers.items) left 0 (λ i there.
          let less = below sources c.args.entry inside (c.in_ok-left.ensures.left.reached (get_or left i 0) (in_at left i there)) in
          omega (arith, less, numbers)));
    }

pub returns : goal.returns
returns c =
    let vs = c.args.next.now.items in
    let next = rows vs in
    let sources = rows c.in_ok-sources.sources.items in
    let now = c.finish.new.self in
    let made = c.reduction_of.result in
    let inside : c.args.entry < length next = omega (arith, c.requires.entry, length_rows vs) in
    let listed = subst (λ l. AreSources next l sources) c.as_slice.ensures.value c.in_ok-sources.ensures in
    let graph = turned_are next c.args.entry (noted_of c.in_ok-found.found) sources c.requires.within inside c.in_ok-found.ensures listed in
    subst (λ (v : Vec Bool). IsReduced (leads next) c.args.entry (λ n. get_or v.items n false) made.ends_in_one) (sym c.reduction_of.ensures.headers)
    (reduced_last next c.args.entry sources graph now c.in_ok-left.ensures.reducing c.in_ok-left.ensures.done c.in_ok-left.left.items c.in_ok-left.ensures.left
    made.ends_in_one (c.reduction_of.ensures.one ∙ ap (list_all (λ n. at_in now n == c.args.entry || at_in now n == c.args.entry)) c.as_slice-2.ensures.value))
