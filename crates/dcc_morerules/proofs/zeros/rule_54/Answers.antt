use Rattle.dcc_morerules.proofs.ZeroLaws.{meets_54}
use Rattle.dcc_morerules.proofs.zeros.rule_54.Goals as goal

pub returns : goal.returns
returns c = meets_54 _ _ _ c.widened.ensures
