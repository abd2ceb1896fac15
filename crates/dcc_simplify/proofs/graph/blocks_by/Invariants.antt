use Rattle.std.proofs.Common.{map}
use Rattle.std.specs.List.{AllZip}
use Rattle.dcc_ir.specs.Views.{block_of}
use Rattle.dcc_rules.specs.Views.{numbers_of}
use Rattle.dcc_simplify.specs.Reshaped.{IsBlockAs}
use Rattle.dcc_simplify.specs.Simplified.{IsSimplified}
use Rattle.dcc_simplify.proofs.graph.blocks_by.Given as goal

abbrev pub invariant-loop-block : goal.invariant-loop-block
invariant-loop-block g l =
    AllZip (IsBlockAs (IsSimplified (numbers_of l.by.rules.now) l.by.bits.now)) (map block_of l.yielded) (map block_of l.done.items)
