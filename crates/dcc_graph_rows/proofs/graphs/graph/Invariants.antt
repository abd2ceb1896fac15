use Rattle.std.proofs.Common.{length, map}
use Rattle.dcc_ir.specs.Views.{block_of}
use Rattle.dcc_graph_rows.proofs.FineGraphs.{AreFine}
use Rattle.dcc_graph_rows.proofs.graphs.graph.Given as goal

abbrev pub invariant-loop-at : goal.invariant-loop-at
invariant-loop-at g l = AreFine (length l.lines) l.at (map block_of l.blocks.items)
