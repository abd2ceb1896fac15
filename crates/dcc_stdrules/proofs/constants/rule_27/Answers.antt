use Rattle.dcc_stdrules.proofs.ConstantLaws.{meets_27}
use Rattle.dcc_stdrules.proofs.constants.rule_27.Goals as goal

pub returns : goal.returns
returns c = meets_27 _ _ c.computed.result c.computed.ensures
