use Rattle.std.proofs.Common.{take}
use Rattle.dcc_machine.specs.declared.image.Image.{Image}
use Rattle.dcc_prog.specs.declared.procedure.Layout.{Layout}
use Rattle.dcc_frames.specs.Body.{AreMeasured, AreBodies}
use Rattle.dcc_frames.proofs.body.bodies.Given as goal

abbrev pub invariant-loop-place : goal.invariant-loop-place
invariant-loop-place l =
    (image : Image) (layout : Layout) → AreMeasured image layout l.procs l.heights
    → AreBodies image layout (take l.place l.procs) l.bodies.items
