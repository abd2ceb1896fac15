use Rattle.dcc_stdrules.proofs.ConstantLaws.{meets_33}
use Rattle.dcc_stdrules.proofs.constants.rule_33.Goals as goal

pub returns : goal.returns
returns c = meets_33 _ _ c.resized.result c.resized.ensures
