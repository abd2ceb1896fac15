use Rattle.std.proofs.Common.{◌≡◌, ℕ, ◌-◌, drop}
use Rattle.dcc_c.specs.Kinds.{first_after}
use Rattle.dcc_c.specs.Offences.{BodyContext, lines_offences, arms_inner}
use Rattle.dcc_reader.specs.PartialViews.{lines_of, arms_of}
use Rattle.dcc_reader.specs.Told.{told}
use Rattle.dcc_check.specs.Contexts.{IsContext}
use Rattle.dcc_check.proofs.check_block.+block.Given as goal

-- with the statements that are left, the first offence is that of all
abbrev pub invariant-check_lines-loop-row : goal.invariant-check_lines-loop-row
invariant-check_lines-loop-row l = (s : BodyContext) (blocks : ℕ) → IsContext l.scene s → l.room ≡ 201 - blocks →
    first_after (told l.first) (lines_offences s blocks (lines_of (drop l.row-index l.rows)))
    ≡ first_after (told l.initial.first) (lines_offences s blocks (lines_of l.rows))

-- with the arms that are left, the first offence is that of all
abbrev pub invariant-check_arms-loop-arm : goal.invariant-check_arms-loop-arm
invariant-check_arms-loop-arm l = (s : BodyContext) (blocks : ℕ) → IsContext l.scene s → l.room ≡ 201 - blocks →
    first_after (told l.first) (arms_inner s blocks (arms_of (drop l.arm-index l.arms)))
    ≡ first_after (told l.initial.first) (arms_inner s blocks (arms_of l.arms))
