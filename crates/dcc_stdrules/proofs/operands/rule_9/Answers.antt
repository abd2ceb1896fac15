use Rattle.dcc_stdrules.proofs.OperandLaws.{meets_9}
use Rattle.dcc_stdrules.proofs.operands.rule_9.Goals as goal

pub returns : goal.returns
returns c = meets_9 _ _ _ c.rewritten.ensures
