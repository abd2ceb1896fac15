use Rattle.dcc_widthrules.proofs.HalfLaws.{meets_53}
use Rattle.dcc_widthrules.proofs.halves.rule_53.Goals as goal

pub returns : goal.returns
returns c = meets_53 _ _ _ c.widened_once.ensures
