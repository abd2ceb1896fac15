use Rattle.std.proofs.Common.{map}
use Rattle.std.specs.Prelude.{All}
use Rattle.std.specs.List.{AllZip}
use Rattle.dcc_ir.specs.Views.{graph_of}
use Rattle.dcc_rules.specs.Views.{numbers_of}
use Rattle.dcc_ir.specs.WellFormed.{IsGraph}
use Rattle.dcc_tidy.specs.Tidied.{IsTidiedGraph}
use Rattle.dcc_tidy.proofs.tidying.tidied_graphs.Given as goal

abbrev pub invariant-loop-graph : goal.invariant-loop-graph
invariant-loop-graph g l =
    AllZip (IsTidiedGraph (numbers_of l.rules)) (map graph_of l.yielded) (map graph_of l.after.items)
    × All IsGraph (map graph_of l.graph-iterator.rest.items)
