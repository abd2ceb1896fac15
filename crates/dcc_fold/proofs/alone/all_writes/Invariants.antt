use Rattle.std.proofs.Common.{◌≡◌, map, flat_map, take}
use Rattle.dcc_flow.specs.Access.{block_access_in}
use Rattle.dcc_fold.specs.Alone.{block_writes}
use Rattle.dcc_fold.proofs.alone.all_writes.Given as goal

abbrev pub invariant-loop-block : goal.invariant-loop-block
invariant-loop-block l = l.list.items ≡ flat_map block_writes (map block_access_in (take l.block-index l.blocks.items))
