use Rattle.dcc_simulation.proofs.SpecialNodes.{special-nodes}
use Rattle.dcc_simulation.proofs.laws.special_nodes_agree.Goals as goal

pub returns : goal.returns
returns c = special-nodes
