use Rattle.dcc_stdrules.proofs.HalfLaws.{meets_39}
use Rattle.dcc_stdrules.proofs.halves.rule_39.Goals as goal

pub returns : goal.returns
returns c = meets_39 _ _ _ c.narrowed_again.ensures
