use Rattle.dcc_stdrules.proofs.ConstantLaws.{meets_29}
use Rattle.dcc_stdrules.proofs.constants.rule_29.Goals as goal

pub returns : goal.returns
returns c = meets_29 _ _ c.computed_unary.result c.computed_unary.ensures
