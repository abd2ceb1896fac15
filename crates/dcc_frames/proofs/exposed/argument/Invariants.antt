use Rattle.std.proofs.Common.{All, take}
use Rattle.dcc_frames.specs.Starts.{IsNear, IsArgumentBy}
use Rattle.dcc_frames.proofs.exposed.argument.Given as goal

abbrev pub invariant-loop-start : goal.invariant-loop-start
invariant-loop-start l = All IsNear l.starts → IsArgumentBy (take l.start-index l.starts) l.least
