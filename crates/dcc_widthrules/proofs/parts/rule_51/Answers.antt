use Rattle.dcc_widthrules.proofs.PartLaws.{meets_51}
use Rattle.dcc_widthrules.proofs.parts.rule_51.Goals as goal

pub returns : goal.returns
returns c = meets_51 _ _ _ c.part_of_half.ensures
