use Rattle.std.proofs.Common.{◌-◌, length}
use Rattle.dcc_procs.specs.Procedures.{IsFinding}
use Rattle.dcc_procs.proofs.procedures.procedures.Given as goal

abbrev pub invariant-loop-alloc : goal.invariant-loop-alloc
invariant-loop-alloc l = IsFinding l.image l.layout l.finder

abbrev pub decreases-loop-alloc : goal.decreases-loop-alloc
decreases-loop-alloc l = 512 - length l.finder.procs.items
