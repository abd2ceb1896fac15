use Rattle.dcc_widthrules.proofs.PartLaws.{meets_50}
use Rattle.dcc_widthrules.proofs.parts.rule_50.Goals as goal

pub returns : goal.returns
returns c = meets_50 _ _ _ c.part_of_part.ensures
