use Rattle.std.proofs.Common.{◌≡◌, take}
use Rattle.dcc_frames.specs.Steps.{steps_of}
use Rattle.dcc_frames.proofs.steps.steps.Given as goal

abbrev pub invariant-loop-place : goal.invariant-loop-place
invariant-loop-place l = l.steps.items ≡ steps_of (take l.place l.proc.nodes.entries) (take l.place l.heights.entries)
