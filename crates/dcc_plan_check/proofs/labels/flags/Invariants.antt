use Rattle.std.proofs.Common.{◌≤◌, length, drop}
use Rattle.dcc_plan_check.proofs.LabelLaws.{AreFlagged}
use Rattle.dcc_plan_check.proofs.labels.flags.Given as goal

-- the blocks from here on are flagged
abbrev pub invariant-loop-left : goal.invariant-loop-left
invariant-loop-left l = (l.left ≤ length l.blocks) × AreFlagged l.flags.items (drop l.left l.blocks)

abbrev pub decreases-loop-left : goal.decreases-loop-left
decreases-loop-left l = l.left
