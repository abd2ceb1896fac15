use Rattle.std.proofs.Common.{All, take}
use Rattle.dcc_frames.specs.Starts.{IsNear, IsLocalBy}
use Rattle.dcc_frames.proofs.exposed.local.Given as goal

abbrev pub invariant-loop-start : goal.invariant-loop-start
invariant-loop-start l = All IsNear l.starts → IsLocalBy (take l.start-index l.starts) l.count
