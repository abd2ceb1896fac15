-- the bytes so far belong to the variable
use Rattle.dcc_globals.proofs.Counting.{Reaches}
use Rattle.dcc_globals.specs.Marks.{data_of}
use Rattle.dcc_globals.proofs.borders.Borders.extent.Given as goal
use Rattle.std.proofs.Common.{◌-◌}

abbrev pub invariant-loop-next : goal.invariant-loop-next
invariant-loop-next l = Reaches (data_of l.self.runs.source) l.at l.next

abbrev pub decreases-loop-next : goal.decreases-loop-next
decreases-loop-next l = 65536 - l.next
