use Rattle.std.proofs.Common.{◌≡◌, length, refl, sym, ap, ap₂, ◌∙◌, arith}
use Rattle.dcc_control.specs.Complete.{followed, some_arms, completed, completed_item, completed_arms}
use Rattle.dcc_control.specs.Plan.{If, Switch, For, While, DoWhile, no_items}
use Rattle.dcc_control.specs.Views.{item_of, plan_before, plan_of, arms_of}
use Rattle.dcc_control.proofs.ItemRows.{if-item, switch-item, for-item, while-item, do-item, arms_before, arms_before-none}
use Rattle.dcc_control.proofs.CompletedItems.{one-completed, none-left, empty-added, one-arm-completed, no-arm-left}
use Rattle.dcc_control.proofs.complete.+complete.Goals.{completed-then-labelled+in_ok-push-2, completed-else-labelled}
use Rattle.dcc_control.proofs.complete.+complete.Goals as goal

-- The arms of a choice.

pub completed_arms-loop-arm-init : goal.completed_arms-loop-arm-init
completed_arms-loop-arm-init t c =
    ap₂ (λ done arms. arms_before done (completed_arms (arms_of arms))) c.in_ok-done.ensures.items c.into_iter-arm-iterator.ensures.into_iter_gives.0

pub completed_arms-loop-arm-preserved : goal.completed_arms-loop-arm-preserved
completed_arms-loop-arm-preserved t c =
    let l = c.loop-arm in
    let rest = c.next.new.self.rest.items in
    ap (λ done. arms_before done (completed_arms (arms_of rest))) c.in_ok-push.ensures.items
    ∙ one-arm-completed l.done.items c.in-Some.arm _ rest refl c.in_ok-body.ensures
    ∙ ap (λ arms. arms_before l.done.items (completed_arms (arms_of arms))) (sym c.in-Some.ensures.steps.0)
    ∙ l.invariant

pub completed_arms-returns : goal.completed_arms-returns
completed_arms-returns t c =
    let l = c.loop-arm in
    let left = l.arm-iterator.rest in
    let none : length left.items ≡ 0 = omega (arith, left.ok.0, c.in-None.ensures.steps.0) in
    sym (arms_before-none l.done.items) ∙ ap (arms_before l.done.items) (sym (no-arm-left left.items none)) ∙ l.invariant

-- Items.

pub completed-loop-item-init : goal.completed-loop-item-init
completed-loop-item-init t c =
    ap₂ (λ done items. plan_before done (completed (plan_of items))) c.in_ok-done.ensures.items c.into_iter-item-iterator.ensures.into_iter_gives.0

pub completed-loop-item-preserved : goal.completed-loop-item-preserved
completed-loop-item-preserved t c =
    let l = c.loop-item in
    let rest = c.next.new.self.rest.items in
    ap (λ done. plan_before done (followed c.is_mark-labelled.result (completed (plan_of rest)))) c.in_ok-push.ensures.items
    ∙ one-completed l.done.items c.in-Some.item c.in_ok-item.item rest l.labelled c.is_mark-labelled.result c.in_ok-item.ensures c.is_mark-labelled.ensures
    ∙ ap (λ items. plan_before l.done.items (followed l.labelled (completed (plan_of items)))) (sym c.in-Some.ensures.steps.0)
    ∙ l.invariant

pub completed-returns : goal.completed-returns
completed-returns t c =
    let l = c.loop-item in
    let left = l.item-iterator.rest in
    let none : length left.items ≡ 0 = omega (arith, left.ok.0, c.in-None.ensures.steps.0) in
    let whole : plan_before l.done.items (followed l.labelled no_items) ≡ completed (plan_of c.args.items.items) =
    ap (plan_before l.done.items) (sym (none-left left.items l.labelled none)) ∙ l.invariant
    in
    elim c.if-labelled.branch [
      | completed-then-labelled+in_ok-push-2 w ↦
          ap (λ done. plan_of done.items) w.done-is ∙ ap plan_of w.in_ok-push-2.ensures.items ∙ empty-added l.done.items
          ∙ ap (λ labelled. plan_before l.done.items (followed labelled no_items)) (sym w.if-labelled.true) ∙ whole
      | completed-else-labelled w ↦
          ap (λ done. plan_of done.items) w.done-is ∙ ap (λ labelled. plan_before l.done.items (followed labelled no_items)) (sym w.if-labelled.false) ∙ whole
    ]

-- An item.

pub completed_item-returns-in_ok-other-in-If : goal.completed_item-returns-in_ok-other-in-If
completed_item-returns-in_ok-other-in-If t c =
    let s = c.in-If in
    let one = c.in_ok-one-in-If in
    let other = c.in_ok-other-in-If in
    if-item s.b one.one other.other ∙ ap₂ (If s.b) one.ensures other.ensures ∙ sym (ap completed_item (ap item_of s.is ∙ if-item s.b s.one s.other))

pub completed_item-returns-in_ok-arms-in-Switch-2 : goal.completed_item-returns-in_ok-arms-in-Switch-2
completed_item-returns-in_ok-arms-in-Switch-2 t c =
    let s = c.in-Switch in
    let arms = c.in_ok-arms-in-Switch in
    let some = c.in_ok-arms-in-Switch-2 in
    switch-item s.b some.arms ∙ ap (Switch s.b) (some.ensures ∙ ap some_arms arms.ensures) ∙ sym (ap completed_item (ap item_of s.is ∙ switch-item s.b s.arms))

pub completed_item-returns-in_ok-body-in-For : goal.completed_item-returns-in_ok-body-in-For
completed_item-returns-in_ok-body-in-For t c =
    let s = c.in-For in
    let body = c.in_ok-body-in-For in
    for-item s.b body.body ∙ ap (For s.b) body.ensures ∙ sym (ap completed_item (ap item_of s.is ∙ for-item s.b s.body))

pub completed_item-returns-in_ok-body-in-While : goal.completed_item-returns-in_ok-body-in-While
completed_item-returns-in_ok-body-in-While t c =
    let s = c.in-While in
    let body = c.in_ok-body-in-While in
    while-item s.on s.b body.body ∙ ap (While s.on s.b) body.ensures ∙ sym (ap completed_item (ap item_of s.is ∙ while-item s.on s.b s.body))

pub completed_item-returns-in_ok-body-in-DoWhile : goal.completed_item-returns-in_ok-body-in-DoWhile
completed_item-returns-in_ok-body-in-DoWhile t c =
    let s = c.in-DoWhile in
    let body = c.in_ok-body-in-DoWhile in
    do-item s.on s.b s.head body.body ∙ ap (DoWhile s.on s.b s.head) body.ensures ∙ sym (ap completed_item (ap item_of s.is ∙ do-item s.on s.b s.head s.body))
