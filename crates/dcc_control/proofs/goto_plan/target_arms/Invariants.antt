use Rattle.std.proofs.Common.{◌≡◌, drop}
use Rattle.dcc_control.specs.GotoPlan as spec
use Rattle.dcc_control.proofs.ItemRows.{arms_before}
use Rattle.dcc_control.proofs.goto_plan.target_arms.Given as goal

-- with the targets that are left, the arms are whole
abbrev pub invariant-loop-i : goal.invariant-loop-i
invariant-loop-i l =
    arms_before l.arms.items (spec.target_arms l.places (drop l.i l.targets)) ≡ spec.target_arms l.places (spec.distinct l.places)
