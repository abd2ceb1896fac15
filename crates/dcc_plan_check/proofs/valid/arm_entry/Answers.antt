use Rattle.std.proofs.Common.{◌≤◌, length, drop, sym, ap, ◌∙◌, arith}
use Rattle.std.proofs.lemmas.List.{drop_all}
use Rattle.dcc_ir.specs.Views.{graph_of}
use Rattle.dcc_control.specs.Plan.{arm_with, is_in}
use Rattle.dcc_control.specs.Valid.{entry}
use Rattle.dcc_control.specs.Views.{plan_of, arms_of}
use Rattle.dcc_plan_check.specs.Checked.{context_of}
use Rattle.dcc_plan_check.proofs.ValidLaws.{arm-found, arm-passed}
use Rattle.dcc_plan_check.proofs.valid.arm_entry.Goals as goal

pub returns-then-contains : goal.returns-then-contains
returns-then-contains c =
    let found = arm-found c.args.arms.now c.loop-arm.arm-index c.args.case c.arm-item.result c.loop-arm-test.true c.arm-item.is
    (ap (is_in c.args.case) (sym c.deref.ensures.value) ∙ sym c.contains.ensures.value ∙ c.if-contains.true) in
    c.entry.ensures
    ∙ ap (λ plan. entry (graph_of c.args.graph.now) plan (context_of c.args.a))
    (ap plan_of c.deref-then-contains.ensures.value ∙ sym found ∙ c.loop-arm.invariant)

pub loop-arm-preserved : goal.loop-arm-preserved
loop-arm-preserved c =
    sym
    (arm-passed c.args.arms.now c.loop-arm.arm-index c.args.case c.arm-item.result c.loop-arm-test.true c.arm-item.is
    (ap (is_in c.args.case) (sym c.deref.ensures.value) ∙ sym c.contains.ensures.value ∙ c.if-contains.false))
    ∙ c.loop-arm.invariant

pub returns : goal.returns
returns c =
    let arms = c.args.arms.now in
    let k = c.loop-arm.arm-index in
    let over : length arms ≤ k = omega arith in
    ap (λ plan. entry (graph_of c.args.graph.now) plan (context_of c.args.a))
    (ap (λ l. arm_with c.args.case (arms_of l)) (sym (drop_all k arms over)) ∙ c.loop-arm.invariant)
