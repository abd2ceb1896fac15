use Rattle.std.proofs.Common.{◌≡◌, drop}
use Rattle.dcc_prog.specs.Trail.{known_ah}
use Rattle.dcc_procs.proofs.plain.known_ah.Given as goal

abbrev pub invariant-loop-place : goal.invariant-loop-place
invariant-loop-place l = l.known ≡ known_ah l.image l.layout (drop l.place l.trail)
