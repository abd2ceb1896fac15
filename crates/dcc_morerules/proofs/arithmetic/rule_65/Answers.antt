use Rattle.dcc_morerules.proofs.ArithmeticLaws.{meets_65}
use Rattle.dcc_morerules.proofs.arithmetic.rule_65.Goals as goal

pub returns : goal.returns
returns c = meets_65 _ _ _ c.shifted_back.ensures
