use Rattle.std.proofs.Common.{◌≡◌, ◌<◌, length, get_or, map, All, sym, ap, ◌∙◌, subst, arith}
use Rattle.std.proofs.lemmas.List.{length-map, get_or_read}
use Rattle.dcc_ir.specs.Tree.{Block}
use Rattle.dcc_ir.specs.Views.{stmt_of, block_of, graph_of}
use Rattle.dcc_ir.specs.Flow.{targets}
use Rattle.dcc_ir.specs.Live.{block_in}
use Rattle.dcc_flow.proofs.RowLaws.{length_rows, length_successors}
use Rattle.dcc_flags.specs.declared.sources.Source.TheVariants.{Nothing}
use Rattle.dcc_flags.proofs.TableLaws.{block_read, targets_read, targets_within, sweep_step, length_spread}
use Rattle.dcc_flags.proofs.reaching.sweep.Goals.{After-as_slice-in-loop-block}
use Rattle.dcc_flags.proofs.reaching.sweep.Goals as goal

-- what the code read of the block's edges
row : (c : After-as_slice-in-loop-block)
    → c.as_slice-in-loop-block.result.now
    ≡ targets (block_in (graph_of c.args.g.now) (get_or c.args.blocks.now c.loop-block.block-index 0)).exit
row c =
    let graph = graph_of c.args.g.now in
    let next = c.args.next.now.items in
    let block = get_or c.args.blocks.now c.loop-block.block-index 0 in
    let within : block < length c.args.g.now.blocks.items = c.requires.blocks c.loop-block.block-index 0 c.loop-block-test.true in
    let same = ap length c.requires.next in
    let inside : block < length next = omega (arith, within, same, length_rows next, length_successors graph, length-map c.args.g.now.blocks.items block_of) in
    targets_read graph next block c.index-in-loop-block-2.result.now c.as_slice-in-loop-block.result.now
    c.requires.next inside c.index-in-loop-block-2.ensures c.as_slice-in-loop-block.ensures.value

pub spread-requires : goal.spread-requires
spread-requires c =
    let graph = graph_of c.args.g.now in
    let block = get_or c.args.blocks.now c.loop-block.block-index 0 in
    let within : block < length c.args.g.now.blocks.items = c.requires.blocks c.loop-block.block-index 0 c.loop-block-test.true in
    let size = length-map c.args.g.now.blocks.items block_of in
    let count = sym (c.loop-block.invariant.count ∙ c.requires.count) in
    let known = targets_within graph block c.requires.graph (omega (arith, within, size)) in
    let there = subst (λ l. All (λ place. place < length graph.blocks) l) (sym (row c)) known in
    subst (λ n. All (λ place. place < n) c.as_slice-in-loop-block.result.now) (size ∙ count) there

pub loop-block-preserved : goal.loop-block-preserved
loop-block-preserved c =
    let graph = graph_of c.args.g.now in
    let block = get_or c.args.blocks.now c.loop-block.block-index 0 in
    let within : block < length c.args.g.now.blocks.items = c.requires.blocks c.loop-block.block-index 0 c.loop-block-test.true in
    let inside : block < length c.loop-block.table.items = omega (arith, within, c.loop-block.invariant.count, c.requires.count) in
    let entry = get_or_read c.loop-block.table.items block c.index.result.now inside c.index.ensures Nothing in
    let stmts = ap (map stmt_of) c.as_slice.ensures.value
    ∙ ap (λ (b : Block). b.stmts) (block_read c.args.g.now block c.index-in-loop-block.result.now within c.index-in-loop-block.ensures) in
    let edges = row (goal.at.loop-block-preserved c).After-as_slice-in-loop-block in
    record {
      count = ap length c.spread.ensures ∙ length_spread c.moved_past-source.result c.loop-block.table.items c.as_slice-in-loop-block.result.now ∙ c.loop-block.invariant.count;
      rest = sweep_step c.args.f graph c.loop-block.table.items c.spread.new.table.items c.args.blocks.now c.loop-block.block-index
          c.index.result.now c.moved_past-source.result (map stmt_of c.as_slice.result.now) c.as_slice-in-loop-block.result.now c.loop-block-test.true
          entry stmts c.moved_past-source.ensures edges c.spread.ensures ∙ c.loop-block.invariant.rest;
    }
