use Rattle.dcc_widthrules.proofs.PartLaws.{meets_63}
use Rattle.dcc_widthrules.proofs.parts.rule_63.Goals as goal

pub returns : goal.returns
returns c = meets_63 _ _ _ c.part_of_masked.ensures
