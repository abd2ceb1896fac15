use Rattle.dcc_stdrules.proofs.OperandLaws.{meets_1}
use Rattle.dcc_stdrules.proofs.operands.rule_1.Goals as goal

pub returns : goal.returns
returns c = meets_1 _ _ _ c.rewritten.ensures
