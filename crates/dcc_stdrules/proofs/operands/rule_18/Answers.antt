use Rattle.dcc_stdrules.proofs.OperandLaws.{meets_18}
use Rattle.dcc_stdrules.proofs.operands.rule_18.Goals as goal

pub returns : goal.returns
returns c = meets_18 _ _ _ c.rewritten.ensures
