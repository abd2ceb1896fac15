use Rattle.std.proofs.Common.{◌+◌, ◌<◌, ◌++◌, length, ap, ◌∙◌, arith}
use Rattle.dcc_ir.specs.Views.{graph_of}
use Rattle.dcc_ir.specs.Live.{block_in}
use Rattle.dcc_summaries.specs.Points.{block_points}
use Rattle.dcc_summaries.proofs.PointLaws.{block_listed, listed_more}
use Rattle.dcc_summaries.proofs.points.add_graph.Goals as goal

pub loop-block-preserved : goal.loop-block-preserved
loop-block-preserved c =
    let graph = c.args.graph.now in
    let k = c.loop-block.block in
    let place = c.args.place in
    let inside : k < length graph.blocks.items = omega (arith, c.loop-block-test.true, c.len-block-end.ensures) in
    listed_more (λ b. block_points place b (block_in (graph_of graph) b)) c.args.points.now.items c.loop-block.points.items c.add_block.new.points.items k c.loop-block.invariant
    (c.in_ok-add_block.ensures ∙ ap (λ l. c.loop-block.points.items ++ l) (block_listed graph place k c.index.result.now inside c.index.ensures (c.len-count.result + 1) (omega (arith, c.len-count.ensures))))
