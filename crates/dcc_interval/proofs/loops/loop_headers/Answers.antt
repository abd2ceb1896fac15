use Rattle.std.proofs.Common.{◌<◌, ◌++◌, length, get_or, map, All, ap, sym, ◌∙◌, subst, arith}
use Rattle.std.specs.Global.{Vec}
use Rattle.std.proofs.lemmas.List.{length-map}
use Rattle.dcc_flow.specs.Edges.{rows, leads}
use Rattle.dcc_flow.proofs.RowLaws.{length_rows}
use Rattle.dcc_interval.specs.declared.interval.Interval.{Interval as IntervalOf}
use Rattle.dcc_interval.specs.Intervals.{headers_of, AreIntervals, intervals_in}
use Rattle.dcc_interval.specs.Derived.{back_headers, levels_in}
use Rattle.dcc_interval.specs.Collapsing.{AreCollapsed}
use Rattle.dcc_interval.proofs.SequenceLaws.{members_are_within}
use Rattle.dcc_interval.proofs.LoopLaws.{declared_level, first_there, level_are, headers_below, back_below, listing_first, listing_on, listing_end}
use Rattle.dcc_interval.proofs.loops.loop_headers.Goals as goal

pub back_headers-requires : goal.back_headers-requires
back_headers-requires c =
    let vs = c.args.next.now.items in
    let r = c.index-first.result.now in
    let there = first_there (leads (rows vs)) c.requires.derived.0 c.args.sequence.now.levels.items r c.requires.derived.2 c.index-first.ensures in
    members_are_within (rows vs) c.requires.derived.0 c.requires.within (omega (arith, c.requires.derived.1, length_rows vs)) r.items there.1 (length vs) (length_rows vs)

pub collapsed-requires-clause-intervals : goal.collapsed-requires-clause-intervals
collapsed-requires-clause-intervals c =
    let there = first_there (leads (rows c.args.next.now.items)) c.requires.derived.0 c.args.sequence.now.levels.items c.index-first.result.now c.requires.derived.2 c.index-first.ensures in
    (c.requires.derived.0, c.requires.derived.1, there.1)

pub loop-place-init : goal.loop-place-init
loop-place-init c =
    let next = rows c.args.next.now.items in
    let graph = rows c.in_ok-graph.graph.items in
    let there = first_there (leads next) c.requires.derived.0 c.args.sequence.now.levels.items c.index-first.result.now c.requires.derived.2 c.index-first.ensures in
    listing_first next c.requires.derived.0 (levels_in c.args.sequence.now.levels.items) c.requires.derived.2 graph
    (subst (λ l. AreCollapsed next l graph) there.0 c.in_ok-graph.ensures) c.in_ok-stands.stands.items c.in_ok-list.list.items
    (c.in_ok-stands.ensures ∙ ap headers_of there.0) (c.in_ok-list.ensures ∙ ap (back_headers (leads next)) there.0)

pub back_headers-requires-in-loop-place : goal.back_headers-requires-in-loop-place
back_headers-requires-in-loop-place c =
    let xs = c.args.sequence.now.levels.items in
    let graph = c.loop-place.graph.items in
    let less : c.loop-place.place < length xs = omega arith in
    let size = length-map xs (λ (l : Vec IntervalOf). intervals_in l.items) in
    let level = declared_level xs c.loop-place.place c.index-level.result.now less c.index-level.ensures in
    let are = level_are (leads (rows c.args.next.now.items)) (levels_in xs) (rows graph) c.loop-place.stands.items c.loop-place.list.items c.loop-place.place c.loop-place.invariant (omega (arith, less, size)) in
    members_are_within (rows graph) 0 c.loop-place.invariant.within c.loop-place.invariant.some c.index-level.result.now.items
    (subst (AreIntervals (leads (rows graph)) 0) (sym level) are) (length graph) (length_rows graph)

pub look_up-requires : goal.look_up-requires
look_up-requires c =
    let xs = c.args.sequence.now.levels.items in
    let graph = rows c.loop-place.graph.items in
    let less : c.loop-place.place < length xs = omega arith in
    let size = length-map xs (λ (l : Vec IntervalOf). intervals_in l.items) in
    let level = declared_level xs c.loop-place.place c.index-level.result.now less c.index-level.ensures in
    let back = c.as_slice.ensures.value ∙ c.in_ok-back.ensures ∙ ap (back_headers (leads graph)) level in
    subst (λ l. All (λ n. n < length c.loop-place.stands.items) l) (sym back)
    (back_below (leads (rows c.args.next.now.items)) (levels_in xs) graph c.loop-place.stands.items c.loop-place.list.items c.loop-place.place c.loop-place.invariant (omega (arith, less, size)))

pub look_up-requires-in-loop-place : goal.look_up-requires-in-loop-place
look_up-requires-in-loop-place c =
    let xs = c.args.sequence.now.levels.items in
    let graph = rows c.loop-place.graph.items in
    let less : c.loop-place.place < length xs = omega arith in
    let size = length-map xs (λ (l : Vec IntervalOf). intervals_in l.items) in
    let level = declared_level xs c.loop-place.place c.index-level.result.now less c.index-level.ensures in
    let heads = c.as_slice-in-loop-place.ensures.value ∙ c.in_ok-heads.ensures ∙ ap headers_of level in
    subst (λ l. All (λ n. n < length c.loop-place.stands.items) l) (sym heads)
    (headers_below (leads (rows c.args.next.now.items)) (levels_in xs) graph c.loop-place.stands.items c.loop-place.list.items c.loop-place.place c.loop-place.invariant (omega (arith, less, size)))

pub collapsed-requires-in-loop-place-clause-intervals : goal.collapsed-requires-in-loop-place-clause-intervals
collapsed-requires-in-loop-place-clause-intervals c =
    let xs = c.args.sequence.now.levels.items in
    let graph = rows c.loop-place.graph.items in
    let less : c.loop-place.place < length xs = omega arith in
    let size = length-map xs (λ (l : Vec IntervalOf). intervals_in l.items) in
    let level = declared_level xs c.loop-place.place c.index-level.result.now less c.index-level.ensures in
    let are = level_are (leads (rows c.args.next.now.items)) (levels_in xs) graph c.loop-place.stands.items c.loop-place.list.items c.loop-place.place c.loop-place.invariant (omega (arith, less, size)) in
    (0, omega (arith, c.loop-place.invariant.some, length_rows c.loop-place.graph.items), subst (AreIntervals (leads graph) 0) (sym level) are)

pub loop-place-preserved : goal.loop-place-preserved
loop-place-preserved c =
    let xs = c.args.sequence.now.levels.items in
    let graph = rows c.loop-place.graph.items in
    let stands = c.loop-place.stands.items in
    let list = c.loop-place.list.items in
    let less : c.loop-place.place < length xs = omega arith in
    let size = length-map xs (λ (l : Vec IntervalOf). intervals_in l.items) in
    let level = declared_level xs c.loop-place.place c.index-level.result.now less c.index-level.ensures in
    let after = rows c.in_ok-graph-2.graph.items in
    let heads = c.as_slice-in-loop-place.ensures.value ∙ c.in_ok-heads.ensures ∙ ap headers_of level in
    let back = c.as_slice.ensures.value ∙ c.in_ok-back.ensures ∙ ap (back_headers (leads graph)) level in
    listing_on (leads (rows c.args.next.now.items)) (levels_in xs) graph stands list c.loop-place.place c.loop-place.invariant (omega (arith, less, size))
    after (subst (λ l. AreCollapsed graph l after) level c.in_ok-graph-2.ensures) c.look_up-in-loop-place.new.list.items c.look_up.new.list.items
    (c.in_ok-look_up-2.ensures ∙ ap (λ l. l ++ map (λ n. get_or stands n 0) c.as_slice-in-loop-place.result.now) c.new-now.ensures.items ∙ ap (map (λ n. get_or stands n 0)) heads)
    (c.in_ok-look_up.ensures ∙ ap (λ l. list ++ map (λ n. get_or stands n 0) l) back)

pub returns : goal.returns
returns c =
    let xs = c.args.sequence.now.levels.items in
    listing_end (leads (rows c.args.next.now.items)) (levels_in xs) (rows c.loop-place.graph.items) c.loop-place.stands.items c.loop-place.list.items c.loop-place.place
    c.loop-place.invariant (omega (arith, length-map xs (λ (l : Vec IntervalOf). intervals_in l.items)))
