use Rattle.std.proofs.Common.{◌≡◌, map}
use Rattle.dcc_ir.specs.Views.{stmt_of}
use Rattle.dcc_loads.specs.Sets.{as_set}
use Rattle.dcc_loads.proofs.sets.with_stmts.Given as goal

abbrev pub invariant-loop-stmt : goal.invariant-loop-stmt
invariant-loop-stmt l = map stmt_of l.after.items ≡ map as_set (map stmt_of l.yielded)
