use Rattle.dcc_stdrules.proofs.OperandLaws.{meets_10}
use Rattle.dcc_stdrules.proofs.operands.rule_10.Goals as goal

pub returns : goal.returns
returns c = meets_10 _ _ _ c.rewritten.ensures
