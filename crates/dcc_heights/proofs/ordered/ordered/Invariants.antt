use Rattle.std.proofs.Common.{◌≡◌, map}
use Rattle.std.specs.Map.Iter.{deref_pair}
use Rattle.dcc_heights.specs.Search.{ordered_by}
use Rattle.dcc_heights.proofs.ordered.ordered.Given as goal

abbrev pub invariant-loop-at : goal.invariant-loop-at
invariant-loop-at l = l.ordered.entries ≡ ordered_by l.heights.entries (map deref_pair l.yielded)
