use Rattle.std.proofs.Common.{◌≡◌, drop}
use Rattle.dcc_variables.proofs.ResultTypes.{type_of_blocks}
use Rattle.dcc_variables.proofs.head.result_type.Given as goal

-- no block so far has a Ret
abbrev pub invariant-loop-block : goal.invariant-loop-block
invariant-loop-block l =
    type_of_blocks l.graph.bits.items (drop l.block-index l.graph.blocks.items) ≡ type_of_blocks l.graph.bits.items l.graph.blocks.items
