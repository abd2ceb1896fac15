use Rattle.dcc_widthrules.proofs.PartLaws.{meets_64}
use Rattle.dcc_widthrules.proofs.parts.rule_64.Goals as goal

pub returns : goal.returns
returns c = meets_64 _ _ _ c.narrowed.ensures
