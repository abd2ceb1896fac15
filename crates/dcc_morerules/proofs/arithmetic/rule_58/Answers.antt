use Rattle.dcc_morerules.proofs.ArithmeticLaws.{meets_58}
use Rattle.dcc_morerules.proofs.arithmetic.rule_58.Goals as goal

pub returns : goal.returns
returns c = meets_58 _ _ _ c.zero_beside.ensures
