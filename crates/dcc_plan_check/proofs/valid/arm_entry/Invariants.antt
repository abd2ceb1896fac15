use Rattle.std.proofs.Common.{◌≡◌, drop}
use Rattle.dcc_control.specs.Plan.{arm_with}
use Rattle.dcc_control.specs.Views.{arms_of}
use Rattle.dcc_plan_check.proofs.valid.arm_entry.Given as goal

-- the arm with the case is among those that are left
abbrev pub invariant-loop-arm : goal.invariant-loop-arm
invariant-loop-arm l = arm_with l.case (arms_of (drop l.arm-index l.arms)) ≡ arm_with l.case (arms_of l.arms)
