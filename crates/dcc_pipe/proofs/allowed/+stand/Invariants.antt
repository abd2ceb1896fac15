use Rattle.std.proofs.Common.{◌≡◌, false, drop}
use Rattle.dcc_control.specs.Views.{plan_of, arms_of}
use Rattle.dcc_plan.specs.Allowed.{may_stand, arms_may_stand}
use Rattle.dcc_pipe.specs.Lines.{around_of}
use Rattle.dcc_pipe.proofs.allowed.+stand.Given as goal

-- it depends on the arms that are left
abbrev pub invariant-arms_may_stand-loop-arm : goal.invariant-arms_may_stand-loop-arm
invariant-arms_may_stand-loop-arm l =
    arms_may_stand (around_of l.around) (arms_of (drop l.arm-index l.arms)) ≡ arms_may_stand (around_of l.around) (arms_of l.arms)

-- it depends on the items that are left
abbrev pub invariant-items_may_stand-loop-item : goal.invariant-items_may_stand-loop-item
invariant-items_may_stand-loop-item l =
    may_stand (around_of l.around) l.labelled (plan_of (drop l.item-index l.items)) ≡ may_stand (around_of l.around) false (plan_of l.items)
