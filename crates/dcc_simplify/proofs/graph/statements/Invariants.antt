use Rattle.std.proofs.Common.{map}
use Rattle.std.specs.List.{AllZip}
use Rattle.dcc_ir.specs.Views.{stmt_of}
use Rattle.dcc_rules.specs.Views.{numbers_of}
use Rattle.dcc_simplify.specs.Reshaped.{IsStmtAs}
use Rattle.dcc_simplify.specs.Simplified.{IsSimplified}
use Rattle.dcc_simplify.proofs.graph.statements.Given as goal

abbrev pub invariant-loop-stmt : goal.invariant-loop-stmt
invariant-loop-stmt g l =
    AllZip (IsStmtAs (IsSimplified (numbers_of l.by.rules.now) l.by.bits.now)) (map stmt_of l.yielded) (map stmt_of l.done.items)
