use Rattle.dcc_stdrules.proofs.ConstantLaws.{meets_34}
use Rattle.dcc_stdrules.proofs.constants.rule_34.Goals as goal

pub returns : goal.returns
returns c = meets_34 _ _ c.joined_constant.result c.joined_constant.ensures
