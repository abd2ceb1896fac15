use Rattle.dcc_stdrules.proofs.HalfLaws.{meets_40}
use Rattle.dcc_stdrules.proofs.halves.rule_40.Goals as goal

pub returns : goal.returns
returns c = meets_40 _ _ _ c.chosen.ensures
