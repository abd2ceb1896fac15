use Rattle.std.proofs.Common.{take, nat_eq}
use Rattle.indexmap.specs.IndexMap.{get}
use Rattle.dcc_frames.specs.Body.{AreCounts}
use Rattle.dcc_frames.proofs.body.counts.Given as goal

abbrev pub invariant-loop-body : goal.invariant-loop-body
invariant-loop-body l = AreCounts (take l.body-index l.bodies) (λ entry. get nat_eq l.counts entry)
