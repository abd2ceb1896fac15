use Rattle.dcc_morerules.proofs.TestLaws.{meets_42}
use Rattle.dcc_morerules.proofs.tests.rule_42.Goals as goal

pub returns : goal.returns
returns c = meets_42 _ _ _ c.either_order.ensures
