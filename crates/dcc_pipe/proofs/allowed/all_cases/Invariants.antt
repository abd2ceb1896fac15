use Rattle.std.proofs.Common.{◌≡◌, ◌++◌, drop}
use Rattle.dcc_control.specs.Plan.{all_cases}
use Rattle.dcc_control.specs.Views.{arms_of}
use Rattle.dcc_pipe.proofs.allowed.all_cases.Given as goal

-- with those of the arms that are left, they are all cases
abbrev pub invariant-loop-arm : goal.invariant-loop-arm
invariant-loop-arm l = l.cases.items ++ all_cases (arms_of (drop l.arm-index l.arms)) ≡ all_cases (arms_of l.arms)
