use Rattle.std.proofs.Common.{◌≡◌, ◌≤◌, length, map, take, drop, reverse}
use Rattle.dcc_ir.specs.Views.{block_of}
use Rattle.dcc_flow.specs.Marks.{empty, members}
use Rattle.dcc_live.specs.Needed.{blocks_left}
use Rattle.dcc_live.proofs.dead.blocks_left.Given as goal

abbrev pub invariant-loop-block : goal.invariant-loop-block
invariant-loop-block l = record {
  le : length l.rest.items ≤ length (map block_of l.initial.rest.items);
  front : map block_of l.rest.items ≡ take (length l.rest.items) (map block_of l.initial.rest.items);
  left : map block_of (reverse l.left.items)
      ≡ blocks_left l.needed.places (drop (length l.rest.items) l.needed.at_end.items) (drop (length l.rest.items) (map block_of l.initial.rest.items));
  none : members l.marks ≡ empty;
}

abbrev pub decreases-loop-block : goal.decreases-loop-block
decreases-loop-block l = length l.rest.items
