use Rattle.std.proofs.Common.{◌≡◌, map, take}
use Rattle.dcc_ir.specs.Views.{stmt_of}
use Rattle.dcc_flow.specs.Access.{access_of, access_in}
use Rattle.dcc_flow.proofs.access.block_accesses.Given as goal

abbrev pub invariant-loop-stmt : goal.invariant-loop-stmt
invariant-loop-stmt l = map access_in l.stmts.items ≡ map access_of (map stmt_of (take l.stmt-index l.block.stmts.items))
