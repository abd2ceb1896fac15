use Rattle.dcc_ir.specs.Views.{expr_of}
use Rattle.dcc_rules.specs.Views.{numbers_of}
use Rattle.dcc_simplify.specs.Simplified.{IsSimplified}
use Rattle.dcc_simplify.proofs.ZipLaws.{zip-pushed}
use Rattle.dcc_simplify.proofs.statement.Simplifier.expressions.Goals as goal

pub loop-e-preserved : goal.loop-e-preserved
loop-e-preserved g c =
    zip-pushed expr_of (IsSimplified (numbers_of c.args.self.now.rules.now) c.args.self.now.bits.now) c.loop-e.yielded c.loop-e.done.items c.in-Some.e
    c.in_ok-expression.field-0 c.push.new.self.items c.in_ok-push.ensures.items c.loop-e.invariant c.in_ok-expression.ensures
