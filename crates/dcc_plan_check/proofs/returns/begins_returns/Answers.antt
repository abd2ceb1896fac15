use Rattle.std.proofs.Common.{subst}
use Rattle.std.specs.Prelude.{IfSome, All}
use Rattle.dcc_ir.specs.Views.{graph_of}
use Rattle.dcc_control.specs.Views.{plan_of}
use Rattle.dcc_plan_check.specs.Checked.{AreLabels, RisesFrom}
use Rattle.dcc_plan_check.proofs.ReturnLaws.{begins-returns}
use Rattle.dcc_plan_check.proofs.returns.begins_returns.Goals as goal

pub returns : goal.returns
returns c answer =
    let labels = c.in-Some.labels in
    let numbers = c.in_ok-numbers.numbers in
    begins-returns (graph_of c.args.graph.now) (plan_of c.args.items.now) labels
    (subst (λ o. IfSome o (AreLabels (plan_of c.args.items.now))) c.in-Some.is c.in_ok-labels.ensures) numbers.items c.in_ok-order.order.items
    c.in_ok-order.ensures
    (subst (All (RisesFrom (graph_of c.args.graph.now) labels.marked.items numbers.items)) c.deref-2.ensures.value (c.all_rise.ensures answer))
