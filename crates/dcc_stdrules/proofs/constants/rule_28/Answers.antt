use Rattle.dcc_stdrules.proofs.ConstantLaws.{meets_28}
use Rattle.dcc_stdrules.proofs.constants.rule_28.Goals as goal

pub returns : goal.returns
returns c = meets_28 _ _ c.computed.result c.computed.ensures
