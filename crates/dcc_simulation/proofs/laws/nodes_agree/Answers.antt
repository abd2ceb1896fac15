use Rattle.dcc_simulation.proofs.NodesAgree.{nodes-agree}
use Rattle.dcc_simulation.proofs.laws.nodes_agree.Goals as goal

pub returns : goal.returns
returns c = nodes-agree
