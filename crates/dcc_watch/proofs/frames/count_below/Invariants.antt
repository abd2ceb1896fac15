use Rattle.std.proofs.Common.{◌-◌}
use Rattle.dcc_watch.proofs.OrderLaws.{IsHalved}
use Rattle.dcc_watch.proofs.frames.count_below.Given as goal

abbrev pub invariant-loop-low : goal.invariant-loop-low
invariant-loop-low l = IsHalved l.lives l.offset l.low l.high

abbrev pub decreases-loop-low : goal.decreases-loop-low
decreases-loop-low l = l.high - l.low
