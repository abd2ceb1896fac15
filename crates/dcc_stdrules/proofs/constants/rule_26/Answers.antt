use Rattle.dcc_stdrules.proofs.ConstantLaws.{meets_26}
use Rattle.dcc_stdrules.proofs.constants.rule_26.Goals as goal

pub returns : goal.returns
returns c = meets_26 _ _ c.computed.result c.computed.ensures
