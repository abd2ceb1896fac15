use Rattle.dcc_stdrules.proofs.SumLaws.{meets_32}
use Rattle.dcc_stdrules.proofs.sums.rule_32.Goals as goal

pub returns : goal.returns
returns c = meets_32 _ _ _ c.summed.ensures
