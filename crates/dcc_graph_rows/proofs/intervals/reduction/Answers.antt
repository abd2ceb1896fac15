use Rattle.std.proofs.Common.{sym, subst}
use Rattle.dcc_ir.specs.Views.{graph_of}
use Rattle.dcc_flow.specs.Edges.{AreWithin}
use Rattle.dcc_flow.proofs.RowLaws.{successors_within}
use Rattle.dcc_graph_rows.proofs.intervals.reduction.Goals as goal

pub reduced-requires-clause-within : goal.reduced-requires-clause-within
reduced-requires-clause-within g c =
    subst AreWithin (sym c.in_ok-next.ensures) (successors_within (graph_of c.args.graph.now) c.requires)
