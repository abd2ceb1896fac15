-- The blocks so far.
use Rattle.std.proofs.Common.{take, map}
use Rattle.dcc_ir.specs.Views.{block_of}
use Rattle.dcc_lift.specs.Blocks.{AreBlocksAt}
use Rattle.dcc_lift.specs.Known.{source_of}
use Rattle.dcc_lift.proofs.outline.Outline.blocks.Given as goal

abbrev pub invariant-loop-at : goal.invariant-loop-at
invariant-loop-at l =
    AreBlocksAt (source_of l.self) (take l.at-index l.self.leaders.items) (map block_of l.blocks.items)
