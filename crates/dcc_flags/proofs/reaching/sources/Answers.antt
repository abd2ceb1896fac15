use Rattle.std.proofs.Common.{◌<◌, length, All, ap, ◌∙◌, subst, arith}
use Rattle.std.proofs.lemmas.List.{length-map}
use Rattle.dcc_ir.specs.Views.{block_of, graph_of}
use Rattle.dcc_flow.proofs.RowLaws.{few_blocks}
use Rattle.dcc_flags.specs.Sources.{rank_of}
use Rattle.dcc_flags.proofs.TableLaws.{rank_of_bound}
use Rattle.dcc_flags.proofs.GrowthLaws.{swept_grows}
use Rattle.dcc_flags.proofs.SweepLaws.{order_within, start_going, swept_going, end_told, length_first}
use Rattle.dcc_flags.proofs.reaching.sources.Goals as goal

pub rank-known-requires : goal.rank-known-requires
rank-known-requires c =
    let graph = graph_of c.args.walk.now.graph.now in
    let few = few_blocks graph c.requires.graph in
    let size = length-map c.args.walk.now.graph.now.blocks.items block_of in
    let count = ap length c.in_ok-table.ensures ∙ length_first c.len.result in
    omega (arith, few, size, count, c.as_slice.ensures.len)

pub loop-before-init : goal.loop-before-init
loop-before-init c =
    let graph = graph_of c.args.walk.now.graph.now in
    let size = length-map c.args.walk.now.graph.now.blocks.items block_of in
    start_going graph c.args.f c.args.walk.now.order.now c.requires.graph c.len.result (omega (arith, size)) c.in_ok-table.table.items
    c.in_ok-table.ensures c.rank-known.result (c.rank-known.ensures ∙ ap rank_of c.as_slice.ensures.value)

pub sweep-requires-clause-blocks : goal.sweep-requires-clause-blocks
sweep-requires-clause-blocks c =
    subst (λ n. All (λ block. block < n) c.args.walk.now.order.now) (length-map c.args.walk.now.graph.now.blocks.items block_of)
    (order_within (graph_of c.args.walk.now.graph.now) c.requires.graph c.args.walk.now.order.now c.requires.order)

pub rank-known-requires-in-loop-before : goal.rank-known-requires-in-loop-before
rank-known-requires-in-loop-before c =
    let graph = graph_of c.args.walk.now.graph.now in
    let few = few_blocks graph c.requires.graph in
    let count = ap length c.sweep.ensures ∙ (swept_grows c.args.f graph c.loop-before.table.items c.args.walk.now.order.now).count in
    omega (arith, few, count, c.loop-before.invariant.count, c.as_slice-in-loop-before.ensures.len)

pub loop-before-smaller : goal.loop-before-smaller
loop-before-smaller c =
    let graph = graph_of c.args.walk.now.graph.now in
    let count = ap length c.sweep.ensures ∙ (swept_grows c.args.f graph c.loop-before.table.items c.args.walk.now.order.now).count in
    let most = rank_of_bound c.loop-before.table.items in
    omega (arith, count, most, c.loop-before.invariant.known_is, c.loop-before-test.true)

pub loop-before-preserved : goal.loop-before-preserved
loop-before-preserved c =
    swept_going (graph_of c.args.walk.now.graph.now) c.args.f c.args.walk.now.order.now c.loop-before.table.items c.sweep.new.table.items
    c.loop-before.before c.loop-before.known c.rank-known-in-loop-before.result c.loop-before.invariant c.sweep.ensures
    (c.rank-known-in-loop-before.ensures ∙ ap rank_of c.as_slice-in-loop-before.ensures.value)

pub returns : goal.returns
returns c =
    end_told (graph_of c.args.walk.now.graph.now) c.args.f c.args.walk.now.order.now c.requires.graph c.requires.order c.loop-before.table.items
    c.loop-before.before c.loop-before.known c.loop-before.invariant c.loop-before-test.false
