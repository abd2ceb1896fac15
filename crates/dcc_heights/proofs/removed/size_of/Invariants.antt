use Rattle.std.proofs.Common.{map}
use Rattle.std.specs.Map.Iter.{deref_pair}
use Rattle.dcc_heights.specs.Removed.{IsSizeSoFar}
use Rattle.dcc_heights.proofs.removed.size_of.Given as goal

abbrev pub invariant-loop-at : goal.invariant-loop-at
invariant-loop-at l = IsSizeSoFar (map deref_pair l.yielded) l.size
