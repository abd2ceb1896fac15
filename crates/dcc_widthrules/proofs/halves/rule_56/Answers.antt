use Rattle.dcc_widthrules.proofs.HalfLaws.{meets_56}
use Rattle.dcc_widthrules.proofs.halves.rule_56.Goals as goal

pub returns : goal.returns
returns c = meets_56 _ _ _ c.joined_neighbours.ensures
