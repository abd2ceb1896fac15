use Rattle.std.proofs.Common.{[], ◌∷◌, map, ap, ◌∙◌}
use Rattle.std.proofs.lemmas.Result.{on_ok_weaker}
use Rattle.dcc_ir.specs.Views.{exit_of, stmt_of}
use Rattle.dcc_control.specs.declared.item.Item.{Mark as MarkOf}
use Rattle.dcc_control.specs.GotoPlan.{do_all, goto_exit}
use Rattle.dcc_control.specs.Views.{plan_before}
use Rattle.dcc_control.proofs.ItemRows.{plan_before-append}
use Rattle.dcc_control.proofs.goto_plan.push_block.Goals as goal

pub returns : goal.returns
returns c plan =
    let b = c.args.b in
    let items = c.args.items.now.items in
    let exit = goto_exit b (exit_of c.args.block.now.end) plan in
    let stmts = do_all b 0 (map stmt_of c.args.block.now.stmts.items) exit in
    on_ok_weaker c.push_exit.result
    (λ is.
    is
    ∙ c.in_ok-push_stmts.ensures exit
    ∙ ap (λ l. plan_before c.push.new.self.items (do_all b 0 (map stmt_of l) exit)) c.deref.ensures.value
    ∙ ap (λ l. plan_before l stmts) c.in_ok-push.ensures.items
    ∙ plan_before-append items (MarkOf b ∷ []) stmts)
    (c.push_exit.ensures plan)
