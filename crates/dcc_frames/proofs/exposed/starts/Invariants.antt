use Rattle.std.proofs.Common.{◌≡◌, take}
use Rattle.dcc_frames.specs.Starts.{starts_of}
use Rattle.dcc_frames.proofs.exposed.starts.Given as goal

abbrev pub invariant-loop-extent : goal.invariant-loop-extent
invariant-loop-extent l = l.starts.items ≡ starts_of l.steps (take l.extent-index l.extents)
