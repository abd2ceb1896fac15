use Rattle.dcc_procs.specs.Search.{work_of, measure}
use Rattle.dcc_procs.proofs.Ended.{Searched}
use Rattle.dcc_procs.proofs.search.Search.run.Given as goal

abbrev pub invariant-loop-at : goal.invariant-loop-at
invariant-loop-at l = Searched l.image l.layout l.entry (work_of l.self)

abbrev pub decreases-loop-at : goal.decreases-loop-at
decreases-loop-at l = measure (work_of l.self)
