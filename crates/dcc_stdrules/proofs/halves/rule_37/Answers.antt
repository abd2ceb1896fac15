use Rattle.dcc_stdrules.proofs.HalfLaws.{meets_37}
use Rattle.dcc_stdrules.proofs.halves.rule_37.Goals as goal

pub returns : goal.returns
returns c = meets_37 _ _ _ c.joined_again.ensures
