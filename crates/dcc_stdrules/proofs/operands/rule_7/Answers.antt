use Rattle.dcc_stdrules.proofs.OperandLaws.{meets_7}
use Rattle.dcc_stdrules.proofs.operands.rule_7.Goals as goal

pub returns : goal.returns
returns c = meets_7 _ _ _ c.rewritten.ensures
