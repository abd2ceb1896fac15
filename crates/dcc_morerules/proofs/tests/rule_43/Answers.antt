use Rattle.dcc_morerules.proofs.TestLaws.{meets_43}
use Rattle.dcc_morerules.proofs.tests.rule_43.Goals as goal

pub returns : goal.returns
returns c = meets_43 _ _ _ c.either_order.ensures
