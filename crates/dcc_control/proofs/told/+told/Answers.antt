use Rattle.std.proofs.Common.{refl, sym, ap, ap₂, ◌∙◌, arith}
use Rattle.std.specs.Prelude.{◌||◌}
use Rattle.std.proofs.lemmas.List.{nil_from_length}
use Rattle.dcc_control.specs.Plan.{If, Switch, While, DoWhile}
use Rattle.dcc_control.specs.Told.{continues, item_continues, arms_continue, told_loop, told_loops, told_item, told_arms}
use Rattle.dcc_control.specs.Views.{item_of, plan_before, plan_of, arms_of}
use Rattle.dcc_control.proofs.ItemRows.{if-item, switch-item, for-item, while-item, do-item, arms_before, arms_before-none}
use Rattle.dcc_control.proofs.ToldItems.{one-told, one-continues, one-arm, one-arm-continues}
use Rattle.dcc_control.proofs.ToldTests.{loop-calm}
use Rattle.dcc_control.proofs.told.+told.Goals as goal

-- The arms of a choice.

pub told_arms-loop-arm-init : goal.told_arms-loop-arm-init
told_arms-loop-arm-init t c = (
  ap₂ (λ done arms. arms_before done (told_arms (arms_of arms))) c.in_ok-told.ensures.items c.into_iter-arm-iterator.ensures.into_iter_gives.0,
  ap (λ done. arms_continue (arms_of done)) (sym c.in_ok-told.ensures.items),
)

pub told_arms-loop-arm-preserved : goal.told_arms-loop-arm-preserved
told_arms-loop-arm-preserved t c =
    let l = c.loop-arm in
    let done = l.told.items in
    let arm = c.in-Some.arm in
    let made = record arm { body = c.in_ok-body.body } in
    let rest = c.next.new.self.rest.items in
    let pushed = c.in_ok-push.ensures.items in (
      ap (λ arms. arms_before arms (told_arms (arms_of rest))) pushed
          ∙ one-arm done arm made rest refl c.in_ok-body.ensures.told
          ∙ ap (λ arms. arms_before done (told_arms (arms_of arms))) (sym c.in-Some.ensures.steps.0)
          ∙ l.invariant.0,
      ap₂ (λ x y. x || y) l.invariant.1 c.in_ok-body.ensures.continues ∙ sym (one-arm-continues done made) ∙ ap (λ arms. arms_continue (arms_of arms)) (sym pushed),
    )

pub told_arms-returns-clause-told : goal.told_arms-returns-clause-told
told_arms-returns-clause-told t c =
    let l = c.loop-arm in
    let left = l.arm-iterator.rest in
    let none = nil_from_length left.items (omega (arith, left.ok.0, c.in-None.ensures.steps.0)) in
    sym (arms_before-none l.told.items) ∙ ap (λ arms. arms_before l.told.items (told_arms (arms_of arms))) (sym none) ∙ l.invariant.0

pub told_arms-returns-clause-continues : goal.told_arms-returns-clause-continues
told_arms-returns-clause-continues t c = c.loop-arm.invariant.1

-- Items.

pub told_plan-loop-item-init : goal.told_plan-loop-item-init
told_plan-loop-item-init t c = (
  ap₂ (λ done items. plan_before done (told_loops (plan_of items))) c.in_ok-told.ensures.items c.into_iter-item-iterator.ensures.into_iter_gives.0,
  ap (λ done. continues (plan_of done)) (sym c.in_ok-told.ensures.items),
)

pub told_plan-loop-item-preserved : goal.told_plan-loop-item-preserved
told_plan-loop-item-preserved t c =
    let l = c.loop-item in
    let done = l.told.items in
    let made = c.in_ok-item.item in
    let rest = c.next.new.self.rest.items in
    let pushed = c.in_ok-push.ensures.items in (
      ap (λ items. plan_before items (told_loops (plan_of rest))) pushed
          ∙ one-told done c.in-Some.item made rest c.in_ok-item.ensures.told
          ∙ ap (λ items. plan_before done (told_loops (plan_of items))) (sym c.in-Some.ensures.steps.0)
          ∙ l.invariant.0,
      ap₂ (λ x y. x || y) l.invariant.1 c.in_ok-item.ensures.continues ∙ sym (one-continues done made) ∙ ap (λ items. continues (plan_of items)) (sym pushed),
    )

pub told_plan-returns-clause-told : goal.told_plan-returns-clause-told
told_plan-returns-clause-told t c =
    let l = c.loop-item in
    let left = l.item-iterator.rest in
    let none = nil_from_length left.items (omega (arith, left.ok.0, c.in-None.ensures.steps.0)) in
    ap (λ items. plan_before l.told.items (told_loops (plan_of items))) (sym none) ∙ l.invariant.0

pub told_plan-returns-clause-continues : goal.told_plan-returns-clause-continues
told_plan-returns-clause-continues t c = c.loop-item.invariant.1

-- An item.

pub told_item-returns-in_ok-other-in-If-clause-told : goal.told_item-returns-in_ok-other-in-If-clause-told
told_item-returns-in_ok-other-in-If-clause-told t c =
    let s = c.in-If in
    let one = c.in_ok-one-in-If in
    let other = c.in_ok-other-in-If in
    if-item s.b one.one other.other ∙ ap₂ (If s.b) one.ensures.told other.ensures.told ∙ sym (ap told_item (ap item_of s.is ∙ if-item s.b s.one s.other))

pub told_item-returns-in_ok-other-in-If-clause-continues : goal.told_item-returns-in_ok-other-in-If-clause-continues
told_item-returns-in_ok-other-in-If-clause-continues t c =
    let one = c.in_ok-one-in-If in
    let other = c.in_ok-other-in-If in
    ap₂ (λ x y. x || y) one.ensures.continues other.ensures.continues ∙ sym (ap item_continues (if-item c.in-If.b one.one other.other))

pub told_item-returns-in_ok-arms-in-Switch-clause-told : goal.told_item-returns-in_ok-arms-in-Switch-clause-told
told_item-returns-in_ok-arms-in-Switch-clause-told t c =
    let s = c.in-Switch in
    let arms = c.in_ok-arms-in-Switch in
    switch-item s.b arms.arms ∙ ap (Switch s.b) arms.ensures.told ∙ sym (ap told_item (ap item_of s.is ∙ switch-item s.b s.arms))

pub told_item-returns-in_ok-arms-in-Switch-clause-continues : goal.told_item-returns-in_ok-arms-in-Switch-clause-continues
told_item-returns-in_ok-arms-in-Switch-clause-continues t c =
    let arms = c.in_ok-arms-in-Switch in
    arms.ensures.continues ∙ sym (ap item_continues (switch-item c.in-Switch.b arms.arms))

pub told_item-returns-in_ok-told_loop-in-For-clause-told : goal.told_item-returns-in_ok-told_loop-in-For-clause-told
told_item-returns-in_ok-told_loop-in-For-clause-told t c =
    let s = c.in-For in
    let body = c.in_ok-body-in-For in
    c.in_ok-told_loop-in-For.ensures body.ensures.continues ∙ ap (told_loop s.b) body.ensures.told ∙ sym (ap told_item (ap item_of s.is ∙ for-item s.b s.body))

pub told_item-returns-in_ok-told_loop-in-For-clause-continues : goal.told_item-returns-in_ok-told_loop-in-For-clause-continues
told_item-returns-in_ok-told_loop-in-For-clause-continues t c =
    let body = c.in_ok-body-in-For in
    sym (ap item_continues (c.in_ok-told_loop-in-For.ensures body.ensures.continues) ∙ loop-calm c.in-For.b (plan_of body.body.items))

pub told_item-returns-in_ok-body-in-While-clause-told : goal.told_item-returns-in_ok-body-in-While-clause-told
told_item-returns-in_ok-body-in-While-clause-told t c =
    let s = c.in-While in
    let body = c.in_ok-body-in-While in
    while-item s.on s.b body.body ∙ ap (While s.on s.b) body.ensures.told ∙ sym (ap told_item (ap item_of s.is ∙ while-item s.on s.b s.body))

pub told_item-returns-in_ok-body-in-DoWhile-clause-told : goal.told_item-returns-in_ok-body-in-DoWhile-clause-told
told_item-returns-in_ok-body-in-DoWhile-clause-told t c =
    let s = c.in-DoWhile in
    let body = c.in_ok-body-in-DoWhile in
    do-item s.on s.b s.head body.body ∙ ap (DoWhile s.on s.b s.head) body.ensures.told ∙ sym (ap told_item (ap item_of s.is ∙ do-item s.on s.b s.head s.body))
