use Rattle.std.proofs.Common.{rules, ◌<◌, ◌*◌, ℕ, Vec, Global, ◌+◌, ◌≤◌, length, drop, refl, sym, ap, ap₂, ◌∙◌, arith}
use Rattle.std.proofs.lemmas.List.{drop_all}
use Rattle.dcc_ir.specs.Views.{graph_of}
use Rattle.dcc_c.specs.Tree.{arm}
use Rattle.dcc_plan.specs.PlanText as spec
use Rattle.dcc_control.specs.Views.{plan_of, arms_of}
use denote.Param.Weighed.{most}
use Rattle.dcc_control.specs.declared.item.Item.{Item}
use Rattle.dcc_control.specs.declared.item.Item.TheViews.{If, the_lemmas}
use Rattle.dcc_control.proofs.item.Item.TheLaws.{the_size}
use Rattle.dcc_plan.proofs.TextRows.{lines_before, bodies_before, lines_before-none, bodies_before-none, rolled-body}
use Rattle.dcc_plan.proofs.WrittenItems.{if-text, switch-text, for-text, while-text, do-text, item-step, arm-step}
use Rattle.dcc_plan.proofs.plan_text.+text.Goals as goal

pub arms_text-loop-arm-preserved : goal.arms_text-loop-arm-preserved
arms_text-loop-arm-preserved g t c =
    let s = g.S.Spells.spelling c.args.s.now in
    let graph = graph_of c.args.graph.now in
    let arms = c.args.arms.now in
    let k = c.loop-arm.arm-index in
    let cases = c.in_ok-cases.ensures.items_if_clones_equal (λ x y same. same) ∙ c.as_slice.ensures.value in
    let body = c.in_ok-body.ensures ∙ ap (λ l. spec.plan_text s graph (plan_of l)) c.deref.ensures.value in
    ap (λ l. bodies_before l (spec.arms_text s graph (arms_of (drop (k + 1) arms)))) c.in_ok-push.ensures.items
    ∙ arm-step s graph arms k c.arm-item.result c.loop-arm.bodies.items _ _ c.loop-arm-test.true c.arm-item.is
    (λ rest. rolled-body _ rest ∙ ap₂ (λ l lines. arm l lines rest) cases body) c.loop-arm.invariant

pub arms_text-returns : goal.arms_text-returns
arms_text-returns g t c =
    let s = g.S.Spells.spelling c.args.s.now in
    let graph = graph_of c.args.graph.now in
    let arms = c.args.arms.now in
    let k = c.loop-arm.arm-index in
    let bodies = c.loop-arm.bodies.items in
    let over : length arms ≤ k = omega arith in
    sym (bodies_before-none bodies)
    ∙ ap (λ l. bodies_before bodies (spec.arms_text s graph (arms_of l))) (sym (drop_all k arms over))
    ∙ c.loop-arm.invariant

pub item_text-returns-in_ok-test-in-If : goal.item_text-returns-in_ok-test-in-If
item_text-returns-in_ok-test-in-If g t c =
    let s = g.S.Spells.spelling c.args.s.now in
    let graph = graph_of c.args.graph.now in
    let is_one = c.deref-in-If.ensures.value in
    let is_other = c.deref-in-If-2.ensures.value in
    let first = c.is_true_first-on.ensures
    ∙ ap₂ (λ xs ys. spec.is_true_first graph (plan_of xs) (plan_of ys)) c.deref-in-If-3.ensures.value c.deref-in-If-4.ensures.value in
    if-text s graph _ c.in-If.b c.in-If.one c.in-If.other c.is_true_first-on.result c.in_ok-test-in-If.test
    c.in_ok-body-in-If.body c.in_ok-otherwise-in-If.otherwise c.if_stmt.result c.in-If.is first c.in_ok-test-in-If.ensures
    (c.in_ok-body-in-If.ensures ∙ ap (λ items. spec.plan_text s graph (plan_of items)) is_one)
    (c.in_ok-otherwise-in-If.ensures ∙ ap (λ items. spec.plan_text s graph (plan_of items)) is_other) c.if_stmt.ensures

pub item_text-returns-in_ok-bodies-in-Switch : goal.item_text-returns-in_ok-bodies-in-Switch
item_text-returns-in_ok-bodies-in-Switch g t c =
    switch-text (g.S.Spells.spelling c.args.s.now) (graph_of c.args.graph.now) _ c.in-Switch.b c.in-Switch.arms _
    c.in_ok-value-in-Switch.value c.in_ok-bodies-in-Switch.bodies c.in-Switch.is c.deref-in-Switch.ensures.value
    c.in_ok-value-in-Switch.ensures c.in_ok-bodies-in-Switch.ensures

pub item_text-returns-in_ok-body-in-For : goal.item_text-returns-in_ok-body-in-For
item_text-returns-in_ok-body-in-For g t c =
    for-text (g.S.Spells.spelling c.args.s.now) (graph_of c.args.graph.now) _ _ c.in-For.inner _ c.in_ok-body-in-For.body
    c.in-For.is c.deref-in-For.ensures.value c.in_ok-body-in-For.ensures

pub item_text-returns-in_ok-test-in-While : goal.item_text-returns-in_ok-test-in-While
item_text-returns-in_ok-test-in-While g t c =
    while-text (g.S.Spells.spelling c.args.s.now) (graph_of c.args.graph.now) _ c.in-While.on c.in-While.b c.in-While.inner _ c.in_ok-test-in-While.test
    c.in_ok-body-in-While.body c.in-While.is c.deref-in-While.ensures.value c.in_ok-test-in-While.ensures c.in_ok-body-in-While.ensures

pub item_text-returns-in_ok-test-in-DoWhile : goal.item_text-returns-in_ok-test-in-DoWhile
item_text-returns-in_ok-test-in-DoWhile g t c =
    do-text (g.S.Spells.spelling c.args.s.now) (graph_of c.args.graph.now) _ c.in-DoWhile.on c.in-DoWhile.b _ c.in-DoWhile.inner _ c.in_ok-test-in-DoWhile.test
    c.in_ok-body-in-DoWhile.body c.in-DoWhile.is c.deref-in-DoWhile.ensures.value c.in_ok-test-in-DoWhile.ensures c.in_ok-body-in-DoWhile.ensures

pub plan_text-loop-item-preserved : goal.plan_text-loop-item-preserved
plan_text-loop-item-preserved g t c =
    let s = g.S.Spells.spelling c.args.s.now in
    let graph = graph_of c.args.graph.now in
    let items = c.args.items.now in
    let k = c.loop-item.item-index in
    ap (λ l. lines_before l (spec.plan_text s graph (plan_of (drop (k + 1) items)))) c.in_ok-push.ensures.items
    ∙ item-step s graph items k c.item-item.result c.loop-item.lines.items _ _ c.loop-item-test.true c.item-item.is c.in_ok-stmt.ensures refl
    c.loop-item.invariant

pub plan_text-returns : goal.plan_text-returns
plan_text-returns g t c =
    let s = g.S.Spells.spelling c.args.s.now in
    let graph = graph_of c.args.graph.now in
    let items = c.args.items.now in
    let k = c.loop-item.item-index in
    let lines = c.loop-item.lines.items in
    let over : length items ≤ k = omega arith in
    sym (lines_before-none lines)
    ∙ ap (λ l. lines_before lines (spec.plan_text s graph (plan_of l))) (sym (drop_all k items over))
    ∙ c.loop-item.invariant

-- the sides of a test are less deep than the test
first-less : (b : ℕ) (one other : Vec Item Global) → most (λ x. the_size x) one.items < the_size (If b one other)
first-less b one other = search (rules, the_lemmas) depth 9 fits 4000

second-less : (b : ℕ) (one other : Vec Item Global) → most (λ x. the_size x) other.items < the_size (If b one other)
second-less b one other = search (rules, the_lemmas) depth 9 fits 4000

pub item_text-plan_text-requires : goal.item_text-plan_text-requires
item_text-plan_text-requires g t c κs within =
    let less = first-less c.in-If.b c.in-If.one c.in-If.other in
    let is = ap (λ x. the_size x) c.in-If.is in
    let lent = ap (λ l. most (λ x. the_size x) l) c.deref-in-If.ensures.value in
    let falls : 2 * most (λ x. the_size x) c.deref-in-If.result.now + 1 < t = omega (arith, c.decreases, less, is, lent) in
    (falls, within)

pub item_text-plan_text-requires-in-If : goal.item_text-plan_text-requires-in-If
item_text-plan_text-requires-in-If g t c κs within =
    let less = second-less c.in-If.b c.in-If.one c.in-If.other in
    let is = ap (λ x. the_size x) c.in-If.is in
    let lent = ap (λ l. most (λ x. the_size x) l) c.deref-in-If-2.ensures.value in
    let falls : 2 * most (λ x. the_size x) c.deref-in-If-2.result.now + 1 < t = omega (arith, c.decreases, less, is, lent) in
    (falls, within)
