use Rattle.dcc_stdrules.proofs.OperandLaws.{meets_6}
use Rattle.dcc_stdrules.proofs.operands.rule_6.Goals as goal

pub returns : goal.returns
returns c = meets_6 _ _ _ c.rewritten.ensures
