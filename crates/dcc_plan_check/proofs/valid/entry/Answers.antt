use Rattle.std.proofs.Common.{◌≤◌, length, sym, ap, ◌∙◌, arith}
use Rattle.std.proofs.lemmas.List.{drop_all}
use Rattle.dcc_ir.specs.Views.{graph_of}
use Rattle.dcc_control.specs.Valid.{entry}
use Rattle.dcc_control.specs.Views.{plan_of}
use Rattle.dcc_plan_check.specs.Checked.{context_of}
use Rattle.dcc_plan_check.proofs.ValidLaws.{entry-found, entry-passed}
use Rattle.dcc_plan_check.proofs.valid.entry.Goals as goal

pub returns-then-not-is_empty_statement : goal.returns-then-not-is_empty_statement
returns-then-not-is_empty_statement c =
    c.item_entry.ensures
    ∙ entry-found (graph_of c.args.graph.now) c.args.items.now c.loop-item.item-index c.item-item.result (context_of c.args.a) c.loop-item-test.true c.item-item.is
    (sym c.is_empty_statement.ensures ∙ c.if-not-is_empty_statement.true)
    ∙ c.loop-item.invariant

pub loop-item-preserved : goal.loop-item-preserved
loop-item-preserved c =
    sym
    (entry-passed (graph_of c.args.graph.now) c.args.items.now c.loop-item.item-index c.item-item.result (context_of c.args.a) c.loop-item-test.true c.item-item.is
    (sym c.is_empty_statement.ensures ∙ c.if-not-is_empty_statement.false))
    ∙ c.loop-item.invariant

pub returns : goal.returns
returns c =
    let items = c.args.items.now in
    let k = c.loop-item.item-index in
    let over : length items ≤ k = omega arith in
    ap (λ l. entry (graph_of c.args.graph.now) (plan_of l) (context_of c.args.a)) (sym (drop_all k items over)) ∙ c.loop-item.invariant
