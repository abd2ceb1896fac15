use Rattle.dcc_morerules.proofs.OppositeLaws.{meets_46}
use Rattle.dcc_morerules.proofs.opposites.rule_46.Goals as goal

pub returns : goal.returns
returns c = meets_46 _ _ _ c.opposite.ensures
