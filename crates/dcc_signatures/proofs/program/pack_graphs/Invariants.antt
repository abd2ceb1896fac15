use Rattle.std.proofs.Common.{◌≡◌, map}
use Rattle.dcc_ir.specs.Views.{graph_of}
use Rattle.dcc_signatures.specs.Packed.{pack_graph}
use Rattle.dcc_signatures.proofs.program.pack_graphs.Given as goal

abbrev pub invariant-loop-graph : goal.invariant-loop-graph
invariant-loop-graph l = map graph_of l.packed.items ≡ map pack_graph (map graph_of l.yielded)
