use Rattle.dcc_simulation.proofs.PlacesWritten.{operands-written}
use Rattle.dcc_simulation.proofs.laws.operands_are_written.Goals as goal

pub returns : goal.returns
returns c = operands-written
