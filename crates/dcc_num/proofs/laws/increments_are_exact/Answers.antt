use Rattle.dcc_num.proofs.Negations.{increments_exact}
use Rattle.dcc_num.proofs.laws.increments_are_exact.Goals as goal

pub returns : goal.returns
returns c = increments_exact
