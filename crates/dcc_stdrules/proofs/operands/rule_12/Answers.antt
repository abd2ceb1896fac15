use Rattle.dcc_stdrules.proofs.OperandLaws.{meets_12}
use Rattle.dcc_stdrules.proofs.operands.rule_12.Goals as goal

pub returns : goal.returns
returns c = meets_12 _ _ _ c.rewritten.ensures
