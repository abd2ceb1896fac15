use Rattle.dcc_stdrules.proofs.OperandLaws.{meets_14}
use Rattle.dcc_stdrules.proofs.operands.rule_14.Goals as goal

pub returns : goal.returns
returns c = meets_14 _ _ _ c.rewritten.ensures
