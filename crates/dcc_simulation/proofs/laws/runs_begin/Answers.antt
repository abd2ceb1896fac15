use Rattle.dcc_simulation.proofs.Begins.{runs-begin}
use Rattle.dcc_simulation.proofs.laws.runs_begin.Goals as goal

pub returns : goal.returns
returns c = runs-begin
