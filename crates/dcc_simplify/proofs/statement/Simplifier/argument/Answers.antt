use Rattle.std.proofs.Common.{Some, None, sym, subst, option_map}
use Rattle.dcc_ir.specs.Views.{expr_of}
use Rattle.dcc_rules.specs.Views.{numbers_of}
use Rattle.dcc_simplify.specs.Reshaped.{IsArgumentAs, none, some}
use Rattle.dcc_simplify.specs.Simplified.{IsSimplified}
use Rattle.dcc_simplify.proofs.statement.Simplifier.argument.Goals as goal

pub returns-in-None : goal.returns-in-None
returns-in-None g c =
    subst (λ x. IsArgumentAs (IsSimplified (numbers_of c.args.self.now.rules.now) c.args.self.now.bits.now) (option_map expr_of x) None) (sym c.in-None.is) none

pub returns-in_ok-expression-in-Some : goal.returns-in_ok-expression-in-Some
returns-in_ok-expression-in-Some g c =
    subst (λ x. IsArgumentAs (IsSimplified (numbers_of c.args.self.now.rules.now) c.args.self.now.bits.now) (option_map expr_of x) (Some (expr_of c.in_ok-expression-in-Some.field-0))) (sym c.in-Some.is)
    (some c.in_ok-expression-in-Some.ensures)
