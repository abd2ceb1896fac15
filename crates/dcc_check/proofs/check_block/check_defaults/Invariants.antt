use Rattle.std.proofs.Common.{◌≡◌, false, drop}
use Rattle.dcc_c.specs.Kinds.{first_after}
use Rattle.dcc_c.specs.Offences.{default_offences}
use Rattle.dcc_reader.specs.PartialViews.{arms_of}
use Rattle.dcc_reader.specs.Told.{told}
use Rattle.dcc_check.proofs.check_block.check_defaults.Given as goal

-- with the arms that are left, the first offence is that of all
abbrev pub invariant-loop-arm : goal.invariant-loop-arm
invariant-loop-arm l =
    first_after (told l.first) (default_offences l.is_known (arms_of (drop l.arm-index l.arms)))
    ≡ first_after (told l.initial.first) (default_offences false (arms_of l.arms))
