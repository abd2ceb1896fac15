use Rattle.std.proofs.Common.{[], ◌∷◌, ap, ◌∙◌}
use Rattle.dcc_control.specs.declared.item.Item.{Switch as SwitchOf}
use Rattle.dcc_control.specs.Plan.{item, Switch}
use Rattle.dcc_control.specs.Views.{plan_before}
use Rattle.dcc_control.proofs.ItemRows.{switch-item, plan_before-append}
use Rattle.dcc_control.proofs.goto_plan.push_choice.Goals as goal

pub returns : goal.returns
returns c plan =
    let items = c.args.items.now.items in
    let arms = c.in_ok-arms.arms in
    ap (λ l. plan_before l plan) c.in_ok-push.ensures.items
    ∙ plan_before-append items (SwitchOf c.args.b arms ∷ []) plan
    ∙ ap (λ i. plan_before items (item i plan)) (switch-item c.args.b arms ∙ ap (Switch c.args.b) c.in_ok-arms.ensures)
