use Rattle.dcc_stdrules.proofs.OperandLaws.{meets_11}
use Rattle.dcc_stdrules.proofs.operands.rule_11.Goals as goal

pub returns : goal.returns
returns c = meets_11 _ _ _ c.rewritten.ensures
