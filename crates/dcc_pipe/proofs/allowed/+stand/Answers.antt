use Rattle.std.proofs.Common.{◌≡◌, false, sym, ap, ap₂, ◌∙◌, subst}
use Rattle.std.specs.Prelude.{◌&&◌, IfOk}
use Rattle.std.proofs.Math.Bool.{and_assoc}
use Rattle.dcc_c.specs.Grammar.{in_switch}
use Rattle.dcc_c.specs.Rules.{differ}
use Rattle.dcc_control.specs.Plan.{all_cases}
use Rattle.dcc_control.specs.Views.{item_of, plan_of, arms_of}
use Rattle.dcc_control.proofs.ItemRows.{if-item, switch-item, for-item, while-item, do-item}
use Rattle.dcc_plan.specs.Allowed.{has_an_arm, may_stand, item_may_stand, arms_may_stand}
use Rattle.dcc_pipe.specs.Lines.{around_of}
use Rattle.dcc_pipe.proofs.allowed.+stand.Goals as goal

pub item_may_stand-returns-in_ok-second-in-If : goal.item_may_stand-returns-in_ok-second-in-If
item_may_stand-returns-in_ok-second-in-If t c =
    let s = c.in-If in
    ap₂ (λ x y. x && y)
    (c.in_ok-first-in-If.ensures ∙ ap₂ (λ around l. may_stand around false (plan_of l)) c.in_block.ensures c.deref.ensures.value)
    (c.in_ok-second-in-If.ensures ∙ ap₂ (λ around l. may_stand around false (plan_of l)) c.in_block-in-If.ensures c.deref-in-If.ensures.value)
    ∙ sym (ap (item_may_stand (around_of c.args.around)) (ap item_of s.is ∙ if-item s.field-0 s.one s.other))

pub item_may_stand-returns-in_ok-inside-in-Switch : goal.item_may_stand-returns-in_ok-inside-in-Switch
item_may_stand-returns-in_ok-inside-in-Switch t c =
    let s = c.in-Switch in
    let arms = arms_of s.arms.items in
    ap₂ (λ x y. x && y)
    (c.in_ok-differ-in-Switch.ensures ∙ ap (λ l. has_an_arm (arms_of l) && differ (all_cases (arms_of l))) c.deref-in-Switch.ensures.value)
    (c.in_ok-inside-in-Switch.ensures ∙ ap₂ (λ around l. arms_may_stand around (arms_of l)) c.in_switch.ensures c.deref-in-Switch-2.ensures.value)
    ∙ and_assoc (has_an_arm arms) (differ (all_cases arms)) (arms_may_stand (in_switch (around_of c.args.around)) arms)
    ∙ sym (ap (item_may_stand (around_of c.args.around)) (ap item_of s.is ∙ switch-item s.field-0 s.arms))

pub item_may_stand-returns-in-For : goal.item_may_stand-returns-in-For
item_may_stand-returns-in-For t c =
    let s = c.in-For in
    subst (λ answer. IfOk c.items_may_stand-in-For.result (λ yes. yes ≡ answer))
    (ap₂ (λ around l. may_stand around false (plan_of l)) c.in_loop.ensures c.deref-in-For.ensures.value
    ∙ sym (ap (item_may_stand (around_of c.args.around)) (ap item_of s.is ∙ for-item s.field-0 s.body))) c.items_may_stand-in-For.ensures

pub item_may_stand-returns-in-While : goal.item_may_stand-returns-in-While
item_may_stand-returns-in-While t c =
    let s = c.in-While in
    subst (λ answer. IfOk c.items_may_stand-in-While.result (λ yes. yes ≡ answer))
    (ap₂ (λ around l. may_stand around false (plan_of l)) c.in_loop-in-While.ensures c.deref-in-While.ensures.value
    ∙ sym (ap (item_may_stand (around_of c.args.around)) (ap item_of s.is ∙ while-item s.field-0 s.field-1 s.body))) c.items_may_stand-in-While.ensures

pub item_may_stand-returns-in-DoWhile : goal.item_may_stand-returns-in-DoWhile
item_may_stand-returns-in-DoWhile t c =
    let s = c.in-DoWhile in
    subst (λ answer. IfOk c.items_may_stand-in-DoWhile.result (λ yes. yes ≡ answer))
    (ap₂ (λ around l. may_stand around false (plan_of l)) c.in_loop-in-DoWhile.ensures c.deref-in-DoWhile.ensures.value
    ∙ sym (ap (item_may_stand (around_of c.args.around)) (ap item_of s.is ∙ do-item s.field-0 s.field-1 s.field-2 s.body))) c.items_may_stand-in-DoWhile.ensures
