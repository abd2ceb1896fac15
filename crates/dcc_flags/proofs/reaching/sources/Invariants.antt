use Rattle.std.proofs.Common.{◌*◌, ◌-◌, length}
use Rattle.dcc_ir.specs.Views.{graph_of}
use Rattle.dcc_flags.proofs.SweepLaws.{Going}
use Rattle.dcc_flags.proofs.reaching.sources.Given as goal

abbrev pub invariant-loop-before : goal.invariant-loop-before
invariant-loop-before l = Going (graph_of l.walk.graph.now) l.f l.walk.order.now l.table.items l.before l.known

abbrev pub decreases-loop-before : goal.decreases-loop-before
decreases-loop-before l = 2 * length l.table.items - l.before
