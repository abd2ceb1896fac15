use Rattle.dcc_stdrules.proofs.SumLaws.{meets_30}
use Rattle.dcc_stdrules.proofs.sums.rule_30.Goals as goal

pub returns : goal.returns
returns c = meets_30 _ _ _ c.summed.ensures
