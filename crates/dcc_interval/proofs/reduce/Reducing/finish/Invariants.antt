use Rattle.std.proofs.Common.{◌≤◌, length}
use Rattle.dcc_flow.specs.Edges.{rows}
use Rattle.dcc_interval.specs.Reducing.{IsReducing, AreLeft, AreDone}
use Rattle.dcc_interval.proofs.reduce.Reducing.finish.Given as goal

abbrev pub invariant-loop-count : goal.invariant-loop-count
invariant-loop-count l = record {
  reducing : IsReducing (rows l.sources.items) l.entry l.self;
  left : AreLeft (rows l.sources.items) l.entry l.self l.left.items;
  few : length l.left.items ≤ l.count;
  done : l.count ≤ length l.left.items → AreDone (rows l.sources.items) l.entry l.self;
}

abbrev pub decreases-loop-count : goal.decreases-loop-count
decreases-loop-count l = l.count
