use Rattle.std.proofs.Common.{◌≡◌, ◌++◌, map, flat_map, take}
use Rattle.dcc_flow.specs.Access.{access_in}
use Rattle.dcc_fold.specs.Alone.{read_by}
use Rattle.dcc_fold.proofs.alone.add_reads.Given as goal

abbrev pub invariant-loop-access : goal.invariant-loop-access
invariant-loop-access l = l.list.items ≡ l.initial.list.items ++ flat_map read_by (map access_in (take l.access-index l.block.stmts.items))
