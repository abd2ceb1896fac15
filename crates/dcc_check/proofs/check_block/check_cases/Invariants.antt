use Rattle.std.proofs.Common.{◌≡◌, ℕ, ◌+◌, ◌++◌, List, [], map, drop}
use Rattle.dcc_c.specs.Kinds.{first_after}
use Rattle.dcc_c.specs.Offences.{case_offences, case_numbers}
use Rattle.dcc_reader.specs.PartialViews.{case_of, arms_of}
use Rattle.dcc_reader.specs.Told.{told}
use Rattle.dcc_check.proofs.CaseLaws.{IsKnown}
use Rattle.dcc_check.proofs.check_block.check_cases.Given as goal

-- with the arms that are left, the first offence is that of all
abbrev pub invariant-loop-arm : goal.invariant-loop-arm
invariant-loop-arm l = (earlier : List ℕ) × (IsKnown l.known earlier × (
    first_after (told l.first) (case_offences earlier (case_numbers (arms_of (drop l.arm-index l.arms))))
    ≡ first_after (told l.fn.first) (case_offences [] (case_numbers (arms_of l.arms)))))

-- with the numbers that are left of an arm, and the arms after it, the first offence is that of all
abbrev pub invariant-loop-number : goal.invariant-loop-number
invariant-loop-number l = (earlier : List ℕ) × (IsKnown l.known earlier × (
    first_after (told l.first) (case_offences earlier (map case_of (drop l.number-index l.number-items) ++ case_numbers (arms_of (drop (l.arm-index + 1) l.arms))))
    ≡ first_after (told l.fn.first) (case_offences [] (case_numbers (arms_of l.arms)))))
