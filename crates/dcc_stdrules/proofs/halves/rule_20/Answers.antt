use Rattle.dcc_stdrules.proofs.HalfLaws.{meets_20}
use Rattle.dcc_stdrules.proofs.halves.rule_20.Goals as goal

pub returns : goal.returns
returns c = meets_20 _ _ _ c.undone.ensures
