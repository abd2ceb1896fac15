use Rattle.dcc_stdrules.proofs.OperandLaws.{meets_5}
use Rattle.dcc_stdrules.proofs.operands.rule_5.Goals as goal

pub returns : goal.returns
returns c = meets_5 _ _ _ c.rewritten.ensures
