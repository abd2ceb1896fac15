use Rattle.std.proofs.Common.{drop}
use Rattle.dcc_control.specs.Plan.{marks, turns, arm_marks, arm_turns}
use Rattle.dcc_control.specs.Views.{plan_of, arms_of}
use Rattle.dcc_plan_check.proofs.LabelLaws.{IsWhole}
use Rattle.dcc_plan_check.proofs.labels.+note.Given as goal

-- with the arms that are left, all is noted
abbrev pub invariant-note_arms-loop-arm : goal.invariant-note_arms-loop-arm
invariant-note_arms-loop-arm l =
    let left = arms_of (drop l.arm-index l.arms) in
    IsWhole l.fn.noted (arm_marks (arms_of l.arms)) (arm_turns (arms_of l.arms)) l.noted (arm_marks left) (arm_turns left)

-- with the items that are left, all is noted
abbrev pub invariant-note_items-loop-item : goal.invariant-note_items-loop-item
invariant-note_items-loop-item l =
    let left = plan_of (drop l.item-index l.items) in
    IsWhole l.fn.noted (marks (plan_of l.items)) (turns (plan_of l.items)) l.noted (marks left) (turns left)
