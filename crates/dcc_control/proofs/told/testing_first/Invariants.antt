use Rattle.std.proofs.Common.{◌≡◌}
use Rattle.dcc_control.specs.Views.{plan_before, plan_of}
use Rattle.dcc_control.proofs.told.testing_first.Given as goal

-- with the items that are left, the plan is whole
abbrev pub invariant-loop-item : goal.invariant-loop-item
invariant-loop-item l =
    plan_before l.items.items (plan_of l.item-iterator.rest.items) ≡ plan_before l.initial.items.items (plan_of l.initial.item-iterator.rest.items)
