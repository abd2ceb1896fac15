use Rattle.dcc_flow.specs.Edges.{rows}
use Rattle.dcc_interval.specs.Derived.{levels_in}
use Rattle.dcc_interval.proofs.SequenceLaws.{Levels, left}
use Rattle.dcc_interval.proofs.sequence.derived.Given as goal

abbrev pub invariant-loop-still : goal.invariant-loop-still
invariant-loop-still l = Levels (rows l.next.items) l.entry (rows l.graph.items) l.still (levels_in l.levels.items)

abbrev pub decreases-loop-still : goal.decreases-loop-still
decreases-loop-still l = left (rows l.graph.items) l.still
