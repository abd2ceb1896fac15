use Rattle.dcc_stdrules.proofs.OperandLaws.{meets_15}
use Rattle.dcc_stdrules.proofs.operands.rule_15.Goals as goal

pub returns : goal.returns
returns c = meets_15 _ _ _ c.rewritten.ensures
