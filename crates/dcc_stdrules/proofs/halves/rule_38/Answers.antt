use Rattle.dcc_stdrules.proofs.HalfLaws.{meets_38}
use Rattle.dcc_stdrules.proofs.halves.rule_38.Goals as goal

pub returns : goal.returns
returns c = meets_38 _ _ _ c.whole_part.ensures
