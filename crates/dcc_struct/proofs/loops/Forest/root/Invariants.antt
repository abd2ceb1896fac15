use Rattle.std.proofs.Common.{◌≤◌}
use Rattle.dcc_struct.proofs.loops.Forest.root.Given as goal

abbrev pub invariant-loop-next : goal.invariant-loop-next
invariant-loop-next l = l.next ≤ l.at

abbrev pub decreases-loop-next : goal.decreases-loop-next
decreases-loop-next l = l.at
