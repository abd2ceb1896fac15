use Rattle.std.proofs.Common.{◌≡◌, ◌++◌, map, drop}
use Rattle.dcc_c.specs.Offences.{label_list, labels_in_arms}
use Rattle.dcc_reader.specs.PartialViews.{lines_of, arms_of}
use Rattle.dcc_reader.specs.WordViews.{lent_word}
use Rattle.dcc_reader.proofs.labels.+labels.Given as goal

-- the labels so far, with those of the statements that are left, are all labels
abbrev pub invariant-push_labels-loop-row : goal.invariant-push_labels-loop-row
invariant-push_labels-loop-row l =
    map lent_word l.found.items ++ label_list (lines_of (drop l.row-index l.rows)) ≡ map lent_word l.initial.found.items ++ label_list (lines_of l.rows)

-- the labels so far, with those of the arms that are left, are all labels
abbrev pub invariant-push_arm_labels-loop-arm : goal.invariant-push_arm_labels-loop-arm
invariant-push_arm_labels-loop-arm l =
    map lent_word l.found.items ++ labels_in_arms (arms_of (drop l.arm-index l.arms)) ≡ map lent_word l.initial.found.items ++ labels_in_arms (arms_of l.arms)
