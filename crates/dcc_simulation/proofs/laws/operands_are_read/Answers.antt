use Rattle.dcc_simulation.proofs.PlacesRead.{operands-read}
use Rattle.dcc_simulation.proofs.laws.operands_are_read.Goals as goal

pub returns : goal.returns
returns c = operands-read
