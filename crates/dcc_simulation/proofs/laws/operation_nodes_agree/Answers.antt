use Rattle.dcc_simulation.proofs.OperationNodes.{operation-nodes}
use Rattle.dcc_simulation.proofs.laws.operation_nodes_agree.Goals as goal

pub returns : goal.returns
returns c = operation-nodes
