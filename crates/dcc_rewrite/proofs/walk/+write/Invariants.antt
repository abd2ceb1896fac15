use Rattle.std.proofs.Common.{◌≡◌, drop}
use Rattle.dcc_c.specs.Views.{lines_of, arms_of}
use Rattle.dcc_respell.specs.Writing.{Writing, lines_by, arms_by}
use Rattle.dcc_rewrite.proofs.Bodies.{appended_arms, appended_lines}
use Rattle.dcc_rewrite.proofs.walk.+write.Given as goal

-- with the arms that are left, all are written
abbrev pub invariant-all_arms-loop-arm : goal.invariant-all_arms-loop-arm
invariant-all_arms-loop-arm g l = (w : Writing) → g.W.Writer.writes_by l.writer w →
    appended_arms l.after.items (arms_by w (arms_of (drop l.arm-index l.arms))) ≡ arms_by w (arms_of l.arms)

-- with the lines that are left, all are written
abbrev pub invariant-lines-loop-line : goal.invariant-lines-loop-line
invariant-lines-loop-line g l = (w : Writing) → g.W.Writer.writes_by l.writer w →
    appended_lines l.after.items (lines_by w (lines_of (drop l.line-index l.lines))) ≡ lines_by w (lines_of l.lines)
