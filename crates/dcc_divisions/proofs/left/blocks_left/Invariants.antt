use Rattle.std.proofs.Common.{◌≡◌, ◌++◌, length, map}
use Rattle.std.specs.List.{AllZip}
use Rattle.dcc_ir.specs.Tree.{Graph}
use Rattle.dcc_ir.specs.Views.{block_of}
use Rattle.dcc_flow.specs.Marks.{empty, members}
use Rattle.dcc_divisions.specs.Divisions.{IsBlockLeft}
use Rattle.dcc_divisions.specs.Walk.{CoverEnds}
use Rattle.dcc_divisions.proofs.left.blocks_left.Given as goal

abbrev pub invariant-loop-block : goal.invariant-loop-block
invariant-loop-block l = record {
  whole : l.fn.blocks.items ≡ l.yielded ++ l.block-iterator.rest.items;
  count : length l.left.items ≡ length l.yielded;
  left : (graph : Graph) → CoverEnds graph (map block_of l.fn.blocks.items) (map (λ v. v.items) l.at_end.items)
      → AllZip (IsBlockLeft graph) (map block_of l.yielded) (map block_of l.left.items);
  empty : members l.live ≡ empty;
}
