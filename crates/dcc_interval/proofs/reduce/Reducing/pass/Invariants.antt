use Rattle.std.proofs.Common.{length}
use Rattle.dcc_flow.specs.Edges.{rows}
use Rattle.dcc_interval.proofs.PassLaws.{Passing}
use Rattle.dcc_interval.proofs.reduce.Reducing.pass.Given as goal

abbrev pub invariant-loop-node : goal.invariant-loop-node
invariant-loop-node l = Passing (rows l.sources.items) l.entry l.self l.kept.items l.rest.items (length l.fn.nodes.items)

abbrev pub decreases-loop-node : goal.decreases-loop-node
decreases-loop-node l = length l.rest.items
