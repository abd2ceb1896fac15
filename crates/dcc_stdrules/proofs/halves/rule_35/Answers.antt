use Rattle.dcc_stdrules.proofs.HalfLaws.{meets_35}
use Rattle.dcc_stdrules.proofs.halves.rule_35.Goals as goal

pub returns : goal.returns
returns c = meets_35 _ _ _ c.low_half.ensures
