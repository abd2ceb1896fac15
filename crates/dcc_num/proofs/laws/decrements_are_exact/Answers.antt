use Rattle.dcc_num.proofs.Negations.{decrements_exact}
use Rattle.dcc_num.proofs.laws.decrements_are_exact.Goals as goal

pub returns : goal.returns
returns c = decrements_exact
