use Rattle.dcc_morerules.proofs.OppositeLaws.{meets_45}
use Rattle.dcc_morerules.proofs.opposites.rule_45.Goals as goal

pub returns : goal.returns
returns c = meets_45 _ _ _ c.opposite.ensures
