use Rattle.dcc_widthrules.proofs.PartLaws.{meets_52}
use Rattle.dcc_widthrules.proofs.parts.rule_52.Goals as goal

pub returns : goal.returns
returns c = meets_52 _ _ _ c.part_of_widened.ensures
