use Rattle.dcc_simulation.proofs.OperationsAgree.{operations-agree}
use Rattle.dcc_simulation.proofs.laws.operations_agree.Goals as goal

pub returns : goal.returns
returns c = operations-agree
