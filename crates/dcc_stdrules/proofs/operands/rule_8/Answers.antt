use Rattle.dcc_stdrules.proofs.OperandLaws.{meets_8}
use Rattle.dcc_stdrules.proofs.operands.rule_8.Goals as goal

pub returns : goal.returns
returns c = meets_8 _ _ _ c.rewritten.ensures
