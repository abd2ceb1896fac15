use Rattle.dcc_morerules.proofs.ArithmeticLaws.{meets_67}
use Rattle.dcc_morerules.proofs.arithmetic.rule_67.Goals as goal

pub returns : goal.returns
returns c = meets_67 _ _ _ c.shifted_twice.ensures
