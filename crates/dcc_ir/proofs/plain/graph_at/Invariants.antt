use Rattle.std.proofs.Common.{◌≡◌, map, drop}
use Rattle.dcc_ir.specs.Views.{graph_of}
use Rattle.dcc_ir.specs.Run.{graph_at}
use Rattle.dcc_ir.proofs.plain.graph_at.Given as goal

-- none of the graphs so far has the entry
abbrev pub invariant-loop-graph : goal.invariant-loop-graph
invariant-loop-graph l = graph_at (map graph_of l.graphs) l.entry ≡ graph_at (map graph_of (drop l.graph-index l.graphs)) l.entry
