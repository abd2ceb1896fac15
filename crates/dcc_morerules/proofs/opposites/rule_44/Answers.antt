use Rattle.dcc_morerules.proofs.OppositeLaws.{meets_44}
use Rattle.dcc_morerules.proofs.opposites.rule_44.Goals as goal

pub returns : goal.returns
returns c = meets_44 _ _ _ c.opposite.ensures
