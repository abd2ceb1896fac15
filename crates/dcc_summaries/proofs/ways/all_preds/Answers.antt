use Rattle.std.proofs.Common.{◌<◌, length, ap, sym, subst, arith}
use Rattle.std.proofs.lemmas.List.{length-map}
use Rattle.std.proofs.lemmas.List.Elements.{All-get_or}
use Rattle.dcc_ir.specs.Run.{no_graph}
use Rattle.dcc_ir.specs.Views.{graph_of, program_of}
use Rattle.dcc_ir.specs.WellFormed.{IsGraph}
use Rattle.dcc_summaries.proofs.PointLaws.{graph_item}
use Rattle.dcc_summaries.proofs.ways.all_preds.Goals as goal

pub preds-requires : goal.preds-requires
preds-requires c =
    let p = program_of c.args.p.now in
    let items = c.args.p.now.graphs.items in
    let k = c.loop-graph.graph-index in
    let inside : k < length p.graphs = omega (arith, c.loop-graph-test.true, ap length c.deref-graph-items.ensures.value, length-map items graph_of) in
    subst IsGraph (sym (graph_item c.args.p.now c.deref-graph-items.result.now k c.graph-item.result c.deref-graph-items.ensures.value c.loop-graph-test.true c.graph-item.is))
    (All-get_or IsGraph p.graphs k no_graph inside c.requires.graphs)
