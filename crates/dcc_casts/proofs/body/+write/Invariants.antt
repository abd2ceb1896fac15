use Rattle.std.proofs.Common.{◌≡◌, drop}
use Rattle.dcc_c.specs.Tree.{Function, Tree}
use Rattle.dcc_c.specs.Views.{lines_of, arms_of}
use Rattle.dcc_respell.specs.Writing.{lines_by, arms_by}
use Rattle.dcc_casts.specs.Casts as spec
use Rattle.dcc_casts.specs.Views.{IsSceneOf}
use Rattle.dcc_casts.proofs.Bodies.{appended_arms, appended_lines}
use Rattle.dcc_casts.proofs.body.+write.Given as goal

-- with the arms that are left, all are written
abbrev pub invariant-all_arms-loop-arm : goal.invariant-all_arms-loop-arm
invariant-all_arms-loop-arm l = (tree : Tree) (f : Function) → IsSceneOf l.scene tree f →
    appended_arms l.after.items (arms_by (spec.writing tree f) (arms_of (drop l.arm-index l.arms))) ≡ arms_by (spec.writing tree f) (arms_of l.arms)

-- with the lines that are left, all are written
abbrev pub invariant-lines-loop-line : goal.invariant-lines-loop-line
invariant-lines-loop-line l = (tree : Tree) (f : Function) → IsSceneOf l.scene tree f →
    appended_lines l.after.items (lines_by (spec.writing tree f) (lines_of (drop l.line-index l.lines))) ≡ lines_by (spec.writing tree f) (lines_of l.lines)
