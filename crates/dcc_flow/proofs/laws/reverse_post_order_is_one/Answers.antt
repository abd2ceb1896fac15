use Rattle.dcc_flow.specs.Edges.{successors_of}
use Rattle.dcc_flow.proofs.OrderLaws.{one}
use Rattle.dcc_flow.proofs.laws.reverse_post_order_is_one.Goals as goal

pub returns : goal.returns
returns c = λ graph order other h k. one (successors_of graph) h k
