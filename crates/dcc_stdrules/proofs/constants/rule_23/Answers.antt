use Rattle.dcc_stdrules.proofs.ConstantLaws.{meets_23}
use Rattle.dcc_stdrules.proofs.constants.rule_23.Goals as goal

pub returns : goal.returns
returns c = meets_23 _ _ c.computed.result c.computed.ensures
