use Rattle.dcc_morerules.proofs.TestLaws.{meets_62}
use Rattle.dcc_morerules.proofs.tests.rule_62.Goals as goal

pub returns : goal.returns
returns c = meets_62 _ _ _ c.zero_truth.ensures
