use Rattle.dcc_stdrules.proofs.HalfLaws.{meets_36}
use Rattle.dcc_stdrules.proofs.halves.rule_36.Goals as goal

pub returns : goal.returns
returns c = meets_36 _ _ _ c.high_half.ensures
