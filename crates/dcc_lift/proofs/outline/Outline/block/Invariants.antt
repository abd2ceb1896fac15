-- The statements so far, and the offset of the last instruction.
use Rattle.std.proofs.Common.{◌-◌}
use Rattle.dcc_lift.specs.Known.{source_of}
use Rattle.dcc_ops.specs.Writing.{written}
use Rattle.dcc_lift.proofs.BegunLaws.{IsBegun}
use Rattle.dcc_lift.proofs.outline.Outline.block.Given as goal

abbrev pub invariant-loop-next : goal.invariant-loop-next
invariant-loop-next l = IsBegun (source_of l.self) l.at l.last (written l.writer)

abbrev pub decreases-loop-next : goal.decreases-loop-next
decreases-loop-next l = 65536 - l.last
