use Rattle.dcc_stdrules.proofs.ConstantLaws.{meets_21}
use Rattle.dcc_stdrules.proofs.constants.rule_21.Goals as goal

pub returns : goal.returns
returns c = meets_21 _ _ c.computed.result c.computed.ensures
