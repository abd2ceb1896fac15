use Rattle.dcc_stdrules.proofs.OperandLaws.{meets_3}
use Rattle.dcc_stdrules.proofs.operands.rule_3.Goals as goal

pub returns : goal.returns
returns c = meets_3 _ _ _ c.rewritten.ensures
