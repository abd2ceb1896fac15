use Rattle.dcc_simulation.proofs.StackNodes.{stack-nodes}
use Rattle.dcc_simulation.proofs.laws.stack_nodes_agree.Goals as goal

pub returns : goal.returns
returns c = stack-nodes
