use Rattle.std.proofs.Common.{◌≤◌, length, drop}
use Rattle.dcc_ir.specs.Views.{graph_of}
use Rattle.dcc_control.specs.Views.{plan_of, arms_of}
use Rattle.dcc_plan_check.specs.Checked.{FitArms}
use Rattle.dcc_plan_check.proofs.ValidLaws.{Stands}
use Rattle.dcc_plan_check.proofs.valid.+valid.Given as goal

-- the arms from here on fit
abbrev pub invariant-are_valid-loop-left : goal.invariant-are_valid-loop-left
invariant-are_valid-loop-left l =
    (l.left ≤ length l.arms) × FitArms (graph_of l.graph) l.labels (arms_of (drop l.left l.arms)) l.a

abbrev pub decreases-are_valid-loop-left : goal.decreases-are_valid-loop-left
decreases-are_valid-loop-left l = l.left

-- the items from here on fit, and stand for the point
abbrev pub invariant-is_valid-loop-left : goal.invariant-is_valid-loop-left
invariant-is_valid-loop-left l =
    (l.left ≤ length l.items) × Stands (graph_of l.graph) l.labels (plan_of (drop l.left l.items)) l.a l.next

abbrev pub decreases-is_valid-loop-left : goal.decreases-is_valid-loop-left
decreases-is_valid-loop-left l = l.left
