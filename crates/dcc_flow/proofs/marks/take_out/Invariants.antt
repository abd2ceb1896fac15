use Rattle.std.proofs.Common.{length}
use Rattle.dcc_flow.specs.Marks.{AreNoted}
use Rattle.dcc_flow.proofs.marks.take_out.Given as goal

abbrev pub invariant-loop-location : goal.invariant-loop-location
invariant-loop-location l = AreNoted l.has.items l.noted.items

abbrev pub decreases-loop-location : goal.decreases-loop-location
decreases-loop-location l = length l.noted.items
