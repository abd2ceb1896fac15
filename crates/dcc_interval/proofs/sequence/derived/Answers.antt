use Rattle.std.proofs.Common.{◌≡◌, false, ap, ◌∙◌, rules, arith}
use Rattle.std.proofs.lemmas.List.{map_push}
use Rattle.dcc_flow.specs.Edges.{rows}
use Rattle.dcc_flow.proofs.RowLaws.{length_rows}
use Rattle.dcc_interval.specs.Intervals.{intervals_in}
use Rattle.dcc_interval.specs.Derived.{levels_in}
use Rattle.dcc_interval.proofs.SequenceLaws.{levels_begin, levels_go_on, less_left}
use Rattle.dcc_interval.proofs.sequence.derived.Goals as goal

pub loop-still-init : goal.loop-still-init
loop-still-init c =
    let first = c.in_ok-first.first in
    levels_begin (rows c.args.next.now.items) c.args.entry (intervals_in first.intervals.items) first.still (rows first.graph.items) (levels_in c.in_ok-levels.levels.items)
    c.in_ok-first.ensures.exact c.in_ok-first.ensures.still c.in_ok-first.ensures.graph (ap levels_in c.in_ok-levels.ensures.items)

pub level_of-requires-in-loop-still : goal.level_of-requires-in-loop-still
level_of-requires-in-loop-still c = record {
  within = c.loop-still.invariant.within;
  entry = omega (arith, c.loop-still.invariant.some, length_rows c.loop-still.graph.items);
}

pub loop-still-preserved : goal.loop-still-preserved
loop-still-preserved c =
    let off : c.loop-still.still ≡ false = search rules in
    let level = c.in_ok-level.level in
    levels_go_on (rows c.args.next.now.items) c.args.entry (rows c.loop-still.graph.items) c.loop-still.still (levels_in c.loop-still.levels.items) (intervals_in level.intervals.items)
    level.still (rows level.graph.items) (levels_in c.push.new.self.items)
    c.loop-still.invariant off c.in_ok-level.ensures.exact c.in_ok-level.ensures.still c.in_ok-level.ensures.graph
    (ap levels_in c.in_ok-push.ensures.items ∙ map_push (λ l. intervals_in l.items) c.loop-still.levels.items level.intervals)

pub loop-still-smaller : goal.loop-still-smaller
loop-still-smaller c =
    let off : c.loop-still.still ≡ false = search rules in
    let level = c.in_ok-level.level in
    less_left (rows c.loop-still.graph.items) c.loop-still.still (intervals_in level.intervals.items) level.still (rows level.graph.items)
    c.loop-still.invariant.within c.loop-still.invariant.some c.loop-still.invariant.loops off c.in_ok-level.ensures.exact c.in_ok-level.ensures.still c.in_ok-level.ensures.graph

pub returns : goal.returns
returns c = c.loop-still.invariant.ended (search rules)
