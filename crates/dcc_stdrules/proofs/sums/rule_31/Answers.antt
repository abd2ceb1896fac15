use Rattle.dcc_stdrules.proofs.SumLaws.{meets_31}
use Rattle.dcc_stdrules.proofs.sums.rule_31.Goals as goal

pub returns : goal.returns
returns c = meets_31 _ _ _ c.summed.ensures
