use Rattle.dcc_morerules.proofs.OppositeLaws.{meets_41}
use Rattle.dcc_morerules.proofs.opposites.rule_41.Goals as goal

pub returns : goal.returns
returns c = meets_41 _ _ _ c.undone.ensures
