use Rattle.std.proofs.Common.{[], ◌∷◌, sym, ap, ◌∙◌}
use Rattle.dcc_ir.specs.Views.{exit_of}
use Rattle.dcc_control.specs.declared.item.Item.{Jump as JumpOf, Return as ReturnOf}
use Rattle.dcc_control.specs.GotoPlan.{goto_exit}
use Rattle.dcc_control.specs.Views.{plan_before}
use Rattle.dcc_control.proofs.ItemRows.{plan_before-append}
use Rattle.dcc_control.proofs.goto_plan.push_exit.Goals as goal

pub returns-in_ok-push-in-Goto : goal.returns-in_ok-push-in-Goto
returns-in_ok-push-in-Goto c plan =
    let items = c.args.items.now.items in
    ap (λ l. plan_before l plan) c.in_ok-push-in-Goto.ensures.items
    ∙ plan_before-append items (JumpOf c.in-Goto.next ∷ []) plan
    ∙ ap (λ end. plan_before items (goto_exit c.args.b (exit_of end) plan)) (sym c.in-Goto.is)

pub returns-in_ok-push-in-Ret : goal.returns-in_ok-push-in-Ret
returns-in_ok-push-in-Ret c plan =
    let items = c.args.items.now.items in
    ap (λ l. plan_before l plan) c.in_ok-push-in-Ret.ensures.items
    ∙ plan_before-append items (ReturnOf c.args.b ∷ []) plan
    ∙ ap (λ end. plan_before items (goto_exit c.args.b (exit_of end) plan)) (sym c.in-Ret.is)
