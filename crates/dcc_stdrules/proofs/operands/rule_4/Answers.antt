use Rattle.dcc_stdrules.proofs.OperandLaws.{meets_4}
use Rattle.dcc_stdrules.proofs.operands.rule_4.Goals as goal

pub returns : goal.returns
returns c = meets_4 _ _ _ c.rewritten.ensures
