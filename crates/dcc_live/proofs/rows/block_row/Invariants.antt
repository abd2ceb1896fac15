use Rattle.std.proofs.Common.{◌≡◌, ◌++◌, map, take, drop, flat_map}
use Rattle.dcc_flow.specs.Access.{Access, access_in}
use Rattle.dcc_flow.specs.Marks.{empty, members}
use Rattle.dcc_live.specs.First.{first_reads}
use Rattle.dcc_live.proofs.rows.block_row.Given as goal

abbrev pub invariant-loop-access : goal.invariant-loop-access
invariant-loop-access l = record { first : l.row.first.items ++ first_reads (members l.written) (drop l.access-index (map access_in l.block.stmts.items)) l.block.last.items ≡ first_reads empty (map access_in l.block.stmts.items) l.block.last.items; writes : l.row.writes.items ≡ flat_map (λ (a : Access). a.writes) (take l.access-index (map access_in l.block.stmts.items)) }
