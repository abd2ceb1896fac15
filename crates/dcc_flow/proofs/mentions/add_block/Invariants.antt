use Rattle.std.proofs.Common.{◌≡◌, ◌++◌, map, flat_map, take}
use Rattle.dcc_flow.specs.Access.{access_in}
use Rattle.dcc_flow.specs.Mentions.{access_mentions}
use Rattle.dcc_flow.proofs.mentions.add_block.Given as goal

abbrev pub invariant-loop-access : goal.invariant-loop-access
invariant-loop-access l = l.list.items ≡ l.initial.list.items ++ flat_map access_mentions (map access_in (take l.access-index l.block.stmts.items))
