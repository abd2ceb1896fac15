use Rattle.std.proofs.Common.{map, take}
use Rattle.std.specs.Prelude.{All}
use Rattle.std.specs.List.{AllZip}
use Rattle.dcc_ir.specs.Views.{graph_of}
use Rattle.dcc_c.specs.Views.{function_of}
use Rattle.dcc_variables.specs.FunctionLaws.{HasFewNames}
use Rattle.dcc_pipe.specs.WrittenFunctions.{IsOwnFunction}
use Rattle.dcc_pipe.proofs.unit.other_functions.Given as goal

abbrev pub invariant-loop-graph : goal.invariant-loop-graph
invariant-loop-graph l =
    AllZip IsOwnFunction (map graph_of (take l.graph-index l.graphs)) (map function_of l.funcs.items)
    × All (λ graph. HasFewNames (graph_of graph)) (take l.graph-index l.graphs)
