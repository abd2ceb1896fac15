use Rattle.dcc_procs.proofs.Collected.{Collected}
use Rattle.dcc_procs.proofs.collect.collect.Given as goal

abbrev pub invariant-loop-place : goal.invariant-loop-place
invariant-loop-place l = Collected l.image l.layout l.entry l.offsets l.place l.nodes.entries
