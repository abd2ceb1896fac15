use Rattle.dcc_morerules.proofs.TestLaws.{meets_60}
use Rattle.dcc_morerules.proofs.tests.rule_60.Goals as goal

pub returns : goal.returns
returns c = meets_60 _ _ _ c.zero_difference.ensures
