use Rattle.dcc_stdrules.proofs.OperandLaws.{meets_13}
use Rattle.dcc_stdrules.proofs.operands.rule_13.Goals as goal

pub returns : goal.returns
returns c = meets_13 _ _ _ c.rewritten.ensures
