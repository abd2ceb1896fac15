use Rattle.dcc_num.proofs.Negations.{negations_exact}
use Rattle.dcc_num.proofs.laws.negations_are_exact.Goals as goal

pub returns : goal.returns
returns c = negations_exact
