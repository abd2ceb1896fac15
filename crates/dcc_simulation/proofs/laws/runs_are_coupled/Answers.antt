use Rattle.dcc_simulation.proofs.Coupling.{coupled}
use Rattle.dcc_simulation.proofs.laws.runs_are_coupled.Goals as goal

pub returns : goal.returns
returns c = coupled
