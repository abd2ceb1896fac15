use Rattle.std.proofs.Common.{take}
use Rattle.dcc_fold.specs.Alone.{IsCounted}
use Rattle.dcc_fold.proofs.alone.counted.Given as goal

abbrev pub invariant-loop-location : goal.invariant-loop-location
invariant-loop-location l = IsCounted l.seen l.again (take l.location-index l.list)
