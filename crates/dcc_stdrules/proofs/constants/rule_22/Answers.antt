use Rattle.dcc_stdrules.proofs.ConstantLaws.{meets_22}
use Rattle.dcc_stdrules.proofs.constants.rule_22.Goals as goal

pub returns : goal.returns
returns c = meets_22 _ _ c.computed.result c.computed.ensures
