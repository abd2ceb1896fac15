use Rattle.dcc_ir.proofs.EdgeLaws.{after_one_from_edges}
use Rattle.dcc_ir.proofs.laws.one_edge_lies_after_one.Goals as goal

pub returns : goal.returns
returns c = after_one_from_edges
