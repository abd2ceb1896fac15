use Rattle.std.proofs.Common.{◌≡◌, map, take}
use Rattle.dcc_flow.specs.Access.{block_access_in}
use Rattle.dcc_flow.specs.Marks.{empty, members}
use Rattle.dcc_live.specs.First.{row_of, row_in}
use Rattle.dcc_live.proofs.rows.rows.Given as goal

abbrev pub invariant-loop-block : goal.invariant-loop-block
invariant-loop-block l = record { rows : map row_in l.rows.items ≡ map row_of (map block_access_in (take l.block-index l.blocks.items)); empty_is : members l.written ≡ empty }
