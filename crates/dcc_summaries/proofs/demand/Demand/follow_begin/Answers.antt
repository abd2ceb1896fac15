use Rattle.std.proofs.Common.{◌≡◌, ◌<◌, length, map, get_or, ap, ◌∙◌, arith}
use Rattle.std.proofs.lemmas.List.{length-map}
use Rattle.dcc_ir.specs.Live.{block_in}
use Rattle.dcc_ir.specs.Tree.{Block}
use Rattle.dcc_ir.specs.Views.{stmt_of, graph_of, program_of}
use Rattle.dcc_summaries.specs.Demands.{demand_of, with_want, with_wants, want_at}
use Rattle.dcc_summaries.specs.Points.{graph_in, point_at}
use Rattle.dcc_summaries.proofs.DemandLaws.{each_more, each_end, read_any}
use Rattle.dcc_summaries.proofs.PointLaws.{graph_read, block_read}
use Rattle.dcc_summaries.proofs.FollowLaws.{row_there, ends_there, end_wants, end_each}
use Rattle.dcc_summaries.proofs.demand.Demand.follow_begin.Goals as goal

pub index-requires-in-loop-block : goal.index-requires-in-loop-block
index-requires-in-loop-block c =
    let s = c.args.setting.now in
    let within = ends_there s.program.now s.ways.now.preds.items c.requires.preds c.args.want.at c.requires.point c.index-graph.result.now c.index-graph.ensures c.deref-block-items.result.now
    (c.deref-block-items.ensures.value
    ∙ row_there (program_of s.program.now) s.ways.now.preds.items c.requires.preds c.args.want.at c.requires.point c.index.result.now c.index-2.result.now c.index.ensures c.index-2.ensures)
    c.loop-block.block-index c.loop-block-test.true in
    omega (arith, within)

pub loop-block-preserved : goal.loop-block-preserved
loop-block-preserved c =
    let p = c.args.setting.now.program.now in
    let place = c.args.want.at.graph in
    let location = c.args.want.location in
    let blocks = c.deref-block-items.result.now in
    let k = c.loop-block.block-index in
    let block = get_or blocks k 0 in
    let below : k < length blocks = omega (arith, c.loop-block-test.true) in
    let graph = graph_read p place c.index-graph.result.now (omega (arith, c.requires.point.graph, length-map p.graphs.items graph_of)) c.index-graph.ensures in
    let s = c.args.setting.now in
    let within = ends_there p s.ways.now.preds.items c.requires.preds c.args.want.at c.requires.point c.index-graph.result.now c.index-graph.ensures c.deref-block-items.result.now
    (c.deref-block-items.ensures.value ∙ row_there (program_of p) s.ways.now.preds.items c.requires.preds c.args.want.at c.requires.point c.index.result.now c.index-2.result.now c.index.ensures c.index-2.ensures)
    k c.loop-block-test.true in
    let there = block_read c.index-graph.result.now block c.index-in-loop-block.result.now within c.index-in-loop-block.ensures ∙ ap (λ g. block_in g block) graph in
    let count = ap (λ (b : Block). length b.stmts) there in
    let done : c.len-done.result ≡ length (block_in (graph_in (program_of p) place) block).stmts =
    omega (arith, c.len-done.ensures, length-map c.index-in-loop-block.result.now.stmts.items stmt_of, count) in
    each_more (end_wants (program_of p) place location) blocks k block (demand_of c.loop-block.self) (demand_of c.want.new.self) _ below (read_any blocks k 0 below)
    (c.in_ok-want.ensures ∙ ap (λ n. with_want (demand_of c.loop-block.self) (want_at (point_at place block n) location)) done) c.loop-block.invariant

pub returns : goal.returns
returns c =
    let p = c.args.setting.now.program.now in
    let lists = c.args.setting.now.ways.now.preds.items in
    let at = c.args.want.at in
    let blocks = c.deref-block-items.result.now in
    let row = c.deref-block-items.ensures.value ∙ row_there (program_of p) lists c.requires.preds at c.requires.point c.index.result.now c.index-2.result.now c.index.ensures c.index-2.ensures in
    each_end (end_wants (program_of p) at.graph c.args.want.location) blocks c.loop-block.block-index (demand_of c.loop-block.self) _ c.loop-block-test.false c.loop-block.invariant
    ∙ ap (with_wants (demand_of c.args.self.now)) (end_each (program_of p) at.graph c.args.want.location blocks)
    ∙ ap (λ l. with_wants (demand_of c.args.self.now) (map (λ b. want_at (point_at at.graph b (length (block_in (graph_in (program_of p) at.graph) b).stmts)) c.args.want.location) l)) row
