use Rattle.dcc_stdrules.proofs.OperandLaws.{meets_17}
use Rattle.dcc_stdrules.proofs.operands.rule_17.Goals as goal

pub returns : goal.returns
returns c = meets_17 _ _ _ c.rewritten.ensures
