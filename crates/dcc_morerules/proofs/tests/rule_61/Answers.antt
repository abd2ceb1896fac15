use Rattle.dcc_morerules.proofs.TestLaws.{meets_61}
use Rattle.dcc_morerules.proofs.tests.rule_61.Goals as goal

pub returns : goal.returns
returns c = meets_61 _ _ _ c.not_positive.ensures
