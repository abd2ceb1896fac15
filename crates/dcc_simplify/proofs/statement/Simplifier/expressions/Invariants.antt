use Rattle.std.proofs.Common.{map}
use Rattle.std.specs.List.{AllZip}
use Rattle.dcc_ir.specs.Views.{expr_of}
use Rattle.dcc_rules.specs.Views.{numbers_of}
use Rattle.dcc_simplify.specs.Simplified.{IsSimplified}
use Rattle.dcc_simplify.proofs.statement.Simplifier.expressions.Given as goal

abbrev pub invariant-loop-e : goal.invariant-loop-e
invariant-loop-e g l =
    AllZip (IsSimplified (numbers_of l.self.rules.now) l.self.bits.now) (map expr_of l.yielded) (map expr_of l.done.items)
