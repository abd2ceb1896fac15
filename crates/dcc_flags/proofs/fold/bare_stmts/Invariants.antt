use Rattle.std.proofs.Common.{◌≡◌, ◌++◌, map, drop}
use Rattle.dcc_ir.specs.Views.{stmt_of}
use Rattle.dcc_flags.specs.Folding as spec
use Rattle.dcc_flags.specs.Folding.{choices_of}
use Rattle.dcc_flags.proofs.fold.bare_stmts.Given as goal

abbrev pub invariant-loop-stmt : goal.invariant-loop-stmt
invariant-loop-stmt l =
    map stmt_of l.bare.items ++ spec.bare_stmts l.kept (choices_of l.choices) (map stmt_of (drop l.stmt-index l.stmts))
    ≡ spec.bare_stmts l.kept (choices_of l.choices) (map stmt_of l.stmts)
