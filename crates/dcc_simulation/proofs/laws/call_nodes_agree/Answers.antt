use Rattle.dcc_simulation.proofs.CallNodes.{call-nodes-agree}
use Rattle.dcc_simulation.proofs.laws.call_nodes_agree.Goals as goal

pub returns : goal.returns
returns c = call-nodes-agree
