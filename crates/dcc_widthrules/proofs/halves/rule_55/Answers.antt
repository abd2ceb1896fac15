use Rattle.dcc_widthrules.proofs.HalfLaws.{meets_55}
use Rattle.dcc_widthrules.proofs.halves.rule_55.Goals as goal

pub returns : goal.returns
returns c = meets_55 _ _ _ c.joined_widened.ensures
