-- the last numbers of the row are added
use Rattle.std.proofs.Common.{◌≤◌, drop, length}
use Rattle.dcc_shape.proofs.EdgeLaws.{AreAdded}
use Rattle.dcc_shape.proofs.edges.add_different.Given as goal

abbrev pub invariant-loop-i : goal.invariant-loop-i
invariant-loop-i l = record {
  within : l.i ≤ length l.row;
  added : AreAdded l.known (drop l.i l.row) l.initial.list.items l.list.items;
}

abbrev pub decreases-loop-i : goal.decreases-loop-i
decreases-loop-i l = l.i
