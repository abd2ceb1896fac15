use Rattle.std.proofs.Common.{◌≡◌}
use Rattle.dcc_control.specs.Told.{continues, arms_continue, told_loops, told_arms}
use Rattle.dcc_control.specs.Views.{plan_before, plan_of, arms_of}
use Rattle.dcc_control.proofs.ItemRows.{arms_before}
use Rattle.dcc_control.proofs.told.+told.Given as goal

-- with the arms that are left, all are told
abbrev pub invariant-told_arms-loop-arm : goal.invariant-told_arms-loop-arm
invariant-told_arms-loop-arm l =
    (arms_before l.told.items (told_arms (arms_of l.arm-iterator.rest.items)) ≡ told_arms (arms_of l.fn.arms.items))
    × (l.continues ≡ arms_continue (arms_of l.told.items))

-- with the items that are left, the plan is told
abbrev pub invariant-told_plan-loop-item : goal.invariant-told_plan-loop-item
invariant-told_plan-loop-item l =
    (plan_before l.told.items (told_loops (plan_of l.item-iterator.rest.items)) ≡ told_loops (plan_of l.fn.items.items))
    × (l.continues ≡ continues (plan_of l.told.items))
