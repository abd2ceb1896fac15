use Rattle.std.proofs.Common.{sym, ◌∙◌, subst}
use Rattle.std.specs.Prelude.{IfSome}
use Rattle.dcc_ir.specs.Views.{graph_of}
use Rattle.dcc_control.specs.Valid.{Begin, Leads}
use Rattle.dcc_control.specs.Views.{plan_of}
use Rattle.dcc_plan_check.specs.Checked.{AreLabels, is_begun_in}
use Rattle.dcc_plan_check.proofs.ValidLaws.{is-structured}
use Rattle.dcc_plan_check.proofs.valid.is_structured.Goals as goal

pub returns : goal.returns
returns c answer =
    let graph = graph_of c.args.graph.now in
    let plan = plan_of c.args.items.now in
    let labels = c.in-Some.labels in
    let are : AreLabels plan labels = subst (λ o. IfSome o (λ l. AreLabels plan l)) c.in-Some.is c.in_ok-labels.ensures in
    is-structured graph labels plan are (sym c.starts_empty.ensures ∙ c.if-starts_empty.false)
    (subst (λ p. Leads graph (is_begun_in labels.begun.items) (Begin 0) p) c.entry-start.ensures (c.leads.ensures c.if-not-leads.false))
    (c.is_valid.ensures answer)
