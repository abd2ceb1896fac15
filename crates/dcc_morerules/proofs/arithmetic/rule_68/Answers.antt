use Rattle.dcc_morerules.proofs.ArithmeticLaws.{meets_68}
use Rattle.dcc_morerules.proofs.arithmetic.rule_68.Goals as goal

pub returns : goal.returns
returns c = meets_68 _ _ _ c.one_multiple.ensures
