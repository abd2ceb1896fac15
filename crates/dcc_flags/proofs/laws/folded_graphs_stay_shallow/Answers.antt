use Rattle.std.proofs.Common.{arith}
use Rattle.dcc_ir.specs.Measure.{deepest}
use Rattle.dcc_ir.specs.Use.{graph_exprs}
use Rattle.dcc_flags.proofs.ShallowLaws.{stays_shallow}
use Rattle.dcc_flags.proofs.laws.folded_graphs_stay_shallow.Goals as goal

pub returns : goal.returns
returns c graph is order searched kept exact nest =
    stays_shallow graph is kept exact (deepest (graph_exprs graph)) nest (omega arith) order searched
