use Rattle.std.proofs.Common.{◌≡◌, map}
use Rattle.dcc_ir.specs.Views.{stmt_of}
use Rattle.dcc_ir.specs.Trimmed.{trim_stmt}
use Rattle.dcc_localise.specs.Staying.{trim_in}
use Rattle.dcc_localise.proofs.trim.trim_stmts.Given as goal

abbrev pub invariant-loop-stmt : goal.invariant-loop-stmt
invariant-loop-stmt l =
    map stmt_of l.left.items ≡ map (trim_stmt (trim_in l.staying.by_entry.entries)) (map stmt_of l.yielded)
