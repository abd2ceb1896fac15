use Rattle.std.proofs.Common.{map, sym, subst}
use Rattle.dcc_ir.specs.Tree.{Goto, If, Switch, Ret, Stop}
use Rattle.dcc_ir.specs.Views.{expr_of, exit_of}
use Rattle.dcc_rules.specs.Views.{numbers_of}
use Rattle.dcc_simplify.specs.Reshaped.{IsExitAs, goes, tests, switches, returns, stops}
use Rattle.dcc_simplify.specs.Simplified.{IsSimplified}
use Rattle.dcc_simplify.proofs.statement.Simplifier.end.Goals as goal

pub returns-in-Goto : goal.returns-in-Goto
returns-in-Goto g c =
    subst (λ x. IsExitAs (IsSimplified (numbers_of c.args.self.now.rules.now) c.args.self.now.bits.now) (exit_of x) (Goto c.in-Goto.place)) (sym c.in-Goto.is)
    (goes)

pub returns-in_ok-test-in-If : goal.returns-in_ok-test-in-If
returns-in_ok-test-in-If g c =
    subst (λ x. IsExitAs (IsSimplified (numbers_of c.args.self.now.rules.now) c.args.self.now.bits.now) (exit_of x) (If (expr_of c.in_ok-test-in-If.test) c.in-If.one c.in-If.other)) (sym c.in-If.is)
    (tests c.in_ok-test-in-If.ensures)

pub returns-in_ok-value-in-Switch : goal.returns-in_ok-value-in-Switch
returns-in_ok-value-in-Switch g c =
    subst (λ x. IsExitAs (IsSimplified (numbers_of c.args.self.now.rules.now) c.args.self.now.bits.now) (exit_of x) (Switch (expr_of c.in_ok-value-in-Switch.value) c.in-Switch.blocks.items)) (sym c.in-Switch.is)
    (switches c.in_ok-value-in-Switch.ensures)

pub returns-in_ok-expressions-in-Ret : goal.returns-in_ok-expressions-in-Ret
returns-in_ok-expressions-in-Ret g c =
    subst (λ x. IsExitAs (IsSimplified (numbers_of c.args.self.now.rules.now) c.args.self.now.bits.now) (exit_of x) (Ret (map expr_of c.in_ok-expressions-in-Ret.field-0.items))) (sym c.in-Ret.is)
    (returns c.in_ok-expressions-in-Ret.ensures)

pub returns-in-Stop : goal.returns-in-Stop
returns-in-Stop g c =
    subst (λ x. IsExitAs (IsSimplified (numbers_of c.args.self.now.rules.now) c.args.self.now.bits.now) (exit_of x) (Stop)) (sym c.in-Stop.is)
    (stops)
