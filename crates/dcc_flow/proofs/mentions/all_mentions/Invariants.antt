use Rattle.std.proofs.Common.{◌≡◌, map, flat_map, take}
use Rattle.dcc_flow.specs.Access.{block_access_in}
use Rattle.dcc_flow.specs.Mentions.{block_access_mentions}
use Rattle.dcc_flow.proofs.mentions.all_mentions.Given as goal

abbrev pub invariant-loop-block : goal.invariant-loop-block
invariant-loop-block l = l.list.items ≡ flat_map block_access_mentions (map block_access_in (take l.block-index l.blocks.items))
