use Rattle.dcc_flow.specs.Edges.{rows, leads}
use Rattle.dcc_interval.specs.Derived.{levels_in}
use Rattle.dcc_interval.proofs.LoopLaws.{Listing}
use Rattle.dcc_interval.proofs.loops.loop_headers.Given as goal

abbrev pub invariant-loop-place : goal.invariant-loop-place
invariant-loop-place l = Listing (leads (rows l.next.items)) (levels_in l.levels.items) (rows l.graph.items) l.stands.items l.list.items l.place
