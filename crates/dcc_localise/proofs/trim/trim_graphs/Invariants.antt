use Rattle.std.proofs.Common.{◌≡◌, map}
use Rattle.dcc_ir.specs.Views.{graph_of}
use Rattle.dcc_ir.specs.Trimmed.{trim_graph}
use Rattle.dcc_localise.specs.Staying.{trim_in}
use Rattle.dcc_localise.proofs.trim.trim_graphs.Given as goal

abbrev pub invariant-loop-graph : goal.invariant-loop-graph
invariant-loop-graph l =
    map graph_of l.left.items ≡ map (trim_graph (trim_in l.staying.by_entry.entries)) (map graph_of l.yielded)
