use Rattle.dcc_stdrules.proofs.ConstantLaws.{meets_25}
use Rattle.dcc_stdrules.proofs.constants.rule_25.Goals as goal

pub returns : goal.returns
returns c = meets_25 _ _ c.computed.result c.computed.ensures
