use Rattle.dcc_stdrules.proofs.SumLaws.{other_first}
use Rattle.dcc_stdrules.proofs.moved.returned.Goals as goal

pub returns : goal.returns
returns c = other_first _ _ _ _ c.mixed.ensures
