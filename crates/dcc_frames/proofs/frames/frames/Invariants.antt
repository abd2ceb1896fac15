use Rattle.std.proofs.Common.{nat_eq, take}
use Rattle.indexmap.specs.IndexMap.{get}
use Rattle.dcc_machine.specs.declared.image.Image.{Image}
use Rattle.dcc_prog.specs.declared.procedure.Layout.{Layout}
use Rattle.dcc_frames.specs.Ready.{AreAllReady, AreFramesAt}
use Rattle.dcc_frames.proofs.frames.frames.Given as goal

abbrev pub invariant-loop-body : goal.invariant-loop-body
invariant-loop-body l =
    (image : Image) (layout : Layout) → AreAllReady image layout l.bodies (λ entry. get nat_eq l.counts entry) l.delta
    → AreFramesAt image layout (take l.body-index l.bodies) l.frames.items
