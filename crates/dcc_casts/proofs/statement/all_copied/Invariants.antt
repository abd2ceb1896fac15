use Rattle.std.proofs.Common.{◌≡◌, ◌++◌, map, drop}
use Rattle.dcc_c.specs.Views.{expr_of}
use Rattle.dcc_casts.proofs.statement.all_copied.Given as goal

-- with the arguments that are left, all are copied
abbrev pub invariant-loop-e : goal.invariant-loop-e
invariant-loop-e l = map expr_of l.copies.items ++ map expr_of (drop l.e-index l.es) ≡ map expr_of l.es
