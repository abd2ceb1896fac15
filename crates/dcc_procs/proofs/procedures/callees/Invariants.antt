-- The calls so far are noted.
use Rattle.std.proofs.Common.{◌≡◌, map}
use Rattle.std.specs.Map.Iter.{deref_pair}
use Rattle.dcc_procs.specs.Procedures.{calls_of}
use Rattle.dcc_procs.proofs.procedures.callees.Given as goal

abbrev pub invariant-loop-at : goal.invariant-loop-at
invariant-loop-at l = l.targets.items ≡ calls_of (map deref_pair l.yielded)
