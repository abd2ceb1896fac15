use Rattle.std.proofs.Common.{◌≡◌}
use Rattle.dcc_control.specs.Complete.{followed, completed, completed_arms}
use Rattle.dcc_control.specs.Views.{plan_before, plan_of, arms_of}
use Rattle.dcc_control.proofs.ItemRows.{arms_before}
use Rattle.dcc_control.proofs.complete.+complete.Given as goal

-- with the arms that are left, all are completed
abbrev pub invariant-completed_arms-loop-arm : goal.invariant-completed_arms-loop-arm
invariant-completed_arms-loop-arm l =
    arms_before l.done.items (completed_arms (arms_of l.arm-iterator.rest.items)) ≡ completed_arms (arms_of l.fn.arms.items)

-- with the items that are left, the plan is completed
abbrev pub invariant-completed-loop-item : goal.invariant-completed-loop-item
invariant-completed-loop-item l =
    plan_before l.done.items (followed l.labelled (completed (plan_of l.item-iterator.rest.items))) ≡ completed (plan_of l.fn.items.items)
