use Rattle.dcc_stdrules.proofs.ConstantLaws.{meets_24}
use Rattle.dcc_stdrules.proofs.constants.rule_24.Goals as goal

pub returns : goal.returns
returns c = meets_24 _ _ c.computed.result c.computed.ensures
