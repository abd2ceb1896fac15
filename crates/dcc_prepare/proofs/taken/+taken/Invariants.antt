use Rattle.std.proofs.Common.{◌≡◌, ◌++◌, drop}
use Rattle.dcc_c.specs.Views.{lines_of, arms_of}
use Rattle.dcc_prepare.specs.Taken.{lent_words, lines_taken, arms_taken}
use Rattle.dcc_prepare.proofs.taken.+taken.Given as goal

-- with the arms that are left, all are there
abbrev pub invariant-push_arms-loop-arm : goal.invariant-push_arms-loop-arm
invariant-push_arms-loop-arm l =
    lent_words l.names.items ++ arms_taken (arms_of (drop l.arm-index l.arms))
    ≡ lent_words l.initial.names.items ++ arms_taken (arms_of l.arms)

-- with the statements that are left, all are there
abbrev pub invariant-push_lines-loop-line : goal.invariant-push_lines-loop-line
invariant-push_lines-loop-line l =
    lent_words l.names.items ++ lines_taken (lines_of (drop l.line-index l.lines))
    ≡ lent_words l.initial.names.items ++ lines_taken (lines_of l.lines)
