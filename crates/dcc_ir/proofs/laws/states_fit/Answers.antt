use Rattle.dcc_ir.proofs.ReachedLaws.{states-fit}
use Rattle.dcc_ir.proofs.laws.states_fit.Goals as goal

pub returns : goal.returns
returns c = states-fit
