use Rattle.dcc_morerules.proofs.OppositeLaws.{meets_47}
use Rattle.dcc_morerules.proofs.opposites.rule_47.Goals as goal

pub returns : goal.returns
returns c = meets_47 _ _ _ c.opposite.ensures
