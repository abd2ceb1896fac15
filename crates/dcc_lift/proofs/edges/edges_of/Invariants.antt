-- The edges from the instructions so far are noted.
use Rattle.std.proofs.Common.{map}
use Rattle.std.specs.Map.Iter.{deref_pair}
use Rattle.dcc_lift.specs.Incoming.{AreIncoming}
use Rattle.dcc_lift.proofs.edges.edges_of.Given as goal

abbrev pub invariant-loop-from : goal.invariant-loop-from
invariant-loop-from l = AreIncoming (map deref_pair l.yielded) l.table.items
