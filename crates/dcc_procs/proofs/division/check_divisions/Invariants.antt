use Rattle.dcc_procs.proofs.Dividing.{Passed}
use Rattle.dcc_procs.proofs.division.check_divisions.Given as goal

abbrev pub invariant-loop-place : goal.invariant-loop-place
invariant-loop-place l = Passed l.image l.layout l.entry l.seen l.order l.place l.ready
