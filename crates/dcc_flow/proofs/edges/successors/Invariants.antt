use Rattle.std.proofs.Common.{◌≡◌, take}
use Rattle.dcc_ir.specs.Views.{graph_of}
use Rattle.dcc_flow.specs.Edges.{rows, successors_of}
use Rattle.dcc_flow.proofs.edges.successors.Given as goal

abbrev pub invariant-loop-block : goal.invariant-loop-block
invariant-loop-block l = rows l.next.items ≡ take l.block-index (successors_of (graph_of l.g))
