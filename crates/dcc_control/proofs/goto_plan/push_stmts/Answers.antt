use Rattle.std.proofs.Common.{[], ◌∷◌, ◌+◌, map, drop, sym, ap, ◌∙◌, arith}
use Rattle.std.proofs.lemmas.List.{length-map}
use Rattle.dcc_ir.specs.Views.{stmt_of}
use Rattle.dcc_control.specs.declared.item.Item.{Do}
use Rattle.dcc_control.specs.GotoPlan as spec
use Rattle.dcc_control.specs.Views.{plan_before}
use Rattle.dcc_control.proofs.GotoSteps.{do-step}
use Rattle.dcc_control.proofs.ItemRows.{plan_before-append}
use Rattle.dcc_control.proofs.goto_plan.push_stmts.Goals as goal

pub loop-m-preserved : goal.loop-m-preserved
loop-m-preserved c plan =
    let stmts = map stmt_of c.args.stmts.now in
    let m = c.loop-m.m in
    let items = c.loop-m.items.items in
    let left = spec.do_all c.args.b (m + 1) (drop (m + 1) stmts) plan in
    ap (λ l. plan_before l left) c.in_ok-push.ensures.items
    ∙ plan_before-append items (Do c.args.b m ∷ []) left
    ∙ ap (plan_before items) (sym (do-step c.args.b m stmts plan (omega (arith, length-map c.args.stmts.now stmt_of))))
    ∙ c.loop-m.invariant plan
