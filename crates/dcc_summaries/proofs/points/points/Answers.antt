use Rattle.std.proofs.Common.{◌<◌, ◌++◌, [], length, ap, ◌∙◌, arith}
use Rattle.dcc_ir.specs.Views.{program_of}
use Rattle.dcc_summaries.specs.Points.{graph_in, graph_points}
use Rattle.dcc_summaries.proofs.PointLaws.{graph_read, listed_more}
use Rattle.dcc_summaries.proofs.points.points.Goals as goal

pub loop-place-preserved : goal.loop-place-preserved
loop-place-preserved c =
    let p = c.args.p.now in
    let k = c.loop-place.place in
    let inside : k < length p.graphs.items = omega (arith, c.loop-place-test.true, c.len-place-end.ensures) in
    listed_more (λ g. graph_points g (graph_in (program_of p) g)) [] c.loop-place.points.items c.add_graph.new.points.items k c.loop-place.invariant
    (c.in_ok-add_graph.ensures ∙ ap (λ g. c.loop-place.points.items ++ graph_points k g) (graph_read p k c.index.result.now inside c.index.ensures))
