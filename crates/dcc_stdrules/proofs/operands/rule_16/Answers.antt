use Rattle.dcc_stdrules.proofs.OperandLaws.{meets_16}
use Rattle.dcc_stdrules.proofs.operands.rule_16.Goals as goal

pub returns : goal.returns
returns c = meets_16 _ _ _ c.rewritten.ensures
