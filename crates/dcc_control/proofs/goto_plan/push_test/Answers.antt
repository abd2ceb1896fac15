use Rattle.std.proofs.Common.{[], ◌∷◌, ap, ap₂, ◌∙◌}
use Rattle.dcc_control.specs.declared.item.Item.{If as IfOf}
use Rattle.dcc_control.specs.Plan.{item, If}
use Rattle.dcc_control.specs.Views.{plan_before}
use Rattle.dcc_control.proofs.ItemRows.{if-item, plan_before-append}
use Rattle.dcc_control.proofs.goto_plan.push_test.Goals as goal

pub returns : goal.returns
returns c plan =
    let items = c.args.items.now.items in
    let one = c.in_ok-one.one in
    let other = c.in_ok-other.other in
    ap (λ l. plan_before l plan) c.in_ok-push.ensures.items
    ∙ plan_before-append items (IfOf c.args.b one other ∷ []) plan
    ∙ ap (λ i. plan_before items (item i plan)) (if-item c.args.b one other ∙ ap₂ (If c.args.b) c.in_ok-one.ensures c.in_ok-other.ensures)
