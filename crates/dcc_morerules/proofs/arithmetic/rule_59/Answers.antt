use Rattle.dcc_morerules.proofs.ArithmeticLaws.{meets_59}
use Rattle.dcc_morerules.proofs.arithmetic.rule_59.Goals as goal

pub returns : goal.returns
returns c = meets_59 _ _ _ c.negative.ensures
