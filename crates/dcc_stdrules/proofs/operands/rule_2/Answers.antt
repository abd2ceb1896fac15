use Rattle.dcc_stdrules.proofs.OperandLaws.{meets_2}
use Rattle.dcc_stdrules.proofs.operands.rule_2.Goals as goal

pub returns : goal.returns
returns c = meets_2 _ _ _ c.rewritten.ensures
