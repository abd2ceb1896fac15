use Rattle.dcc_morerules.proofs.TestLaws.{meets_48}
use Rattle.dcc_morerules.proofs.tests.rule_48.Goals as goal

pub returns : goal.returns
returns c = meets_48 _ _ _ c.equal_after_sum.ensures
