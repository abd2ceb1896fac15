use Rattle.dcc_stdrules.proofs.HalfLaws.{meets_19}
use Rattle.dcc_stdrules.proofs.halves.rule_19.Goals as goal

pub returns : goal.returns
returns c = meets_19 _ _ _ c.undone.ensures
