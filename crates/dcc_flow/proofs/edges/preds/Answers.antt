use Rattle.std.proofs.Common.{sym, subst}
use Rattle.dcc_ir.specs.Views.{graph_of}
use Rattle.dcc_flow.specs.Edges.{AreWithin}
use Rattle.dcc_flow.proofs.RowLaws.{successors_within}
use Rattle.dcc_flow.proofs.edges.preds.Goals as goal

pub sources-requires : goal.sources-requires
sources-requires c = subst AreWithin (sym c.in_ok-next.ensures) (successors_within (graph_of c.args.g.now) c.requires)
