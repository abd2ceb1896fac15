use Rattle.std.proofs.Common.{◌≡◌, ◌≤◌, length, drop}
use Rattle.dcc_watch.specs.Shapes.{shapes_of}
use Rattle.dcc_watch.proofs.shape.shapes.Given as goal

abbrev pub invariant-loop-left : goal.invariant-loop-left
invariant-loop-left l = record {
  procs : l.left ≤ length l.procs;
  frames : l.left ≤ length l.frames;
  count : length l.shapes.items ≡ 65536;
  filled : l.shapes.items ≡ shapes_of (drop l.left l.procs) (drop l.left l.frames);
}

abbrev pub decreases-loop-left : goal.decreases-loop-left
decreases-loop-left l = l.left
