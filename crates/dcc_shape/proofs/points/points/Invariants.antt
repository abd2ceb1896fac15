-- the instructions so far
use Rattle.std.proofs.Common.{◌≡◌, map}
use Rattle.std.specs.Map.Iter.{deref_pair}
use Rattle.dcc_shape.specs.Asked.{point_in, point_of}
use Rattle.dcc_shape.proofs.points.points.Given as goal

abbrev pub invariant-loop-at : goal.invariant-loop-at
invariant-loop-at l = map point_in l.points.items ≡ map point_of (map deref_pair l.yielded)
