use Rattle.dcc_simulation.proofs.ReturnNodes.{return-nodes-agree}
use Rattle.dcc_simulation.proofs.laws.return_nodes_agree.Goals as goal

pub returns : goal.returns
returns c = return-nodes-agree
