use Rattle.std.proofs.Common.{◌≡◌, map, take}
use Rattle.dcc_ir.specs.Views.{block_of}
use Rattle.dcc_flow.specs.Access.{block_access_of, block_access_in}
use Rattle.dcc_flow.proofs.access.accesses.Given as goal

abbrev pub invariant-loop-block : goal.invariant-loop-block
invariant-loop-block l = map block_access_in l.blocks.items ≡ map block_access_of (map block_of (take l.block-index l.g.blocks.items))
