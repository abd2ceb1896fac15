use Rattle.std.proofs.Common.{◌≡◌, ◌<◌, ◌+◌, length, get_or, take, ap, sym, ◌∙◌, subst, arith}
use Rattle.std.proofs.lemmas.List.{length-map}
use Rattle.dcc_ir.specs.Views.{block_of, graph_of}
use Rattle.dcc_flow.specs.Edges.{rows, successors_of}
use Rattle.dcc_flow.proofs.RowLaws.{push_step, successor_row, length_successors}
use Rattle.dcc_flow.proofs.edges.successors.Goals as goal

pub loop-block-preserved : goal.loop-block-preserved
loop-block-preserved c =
    let blocks = c.args.g.now.blocks.items in
    let i = c.loop-block.block-index in
    let all = successors_of (graph_of c.args.g.now) in
    let size = length_successors (graph_of c.args.g.now) in
    let whole = length-map blocks block_of in
    let same = ap length c.deref-block-items.ensures.value in
    let inside : i < length blocks = omega (arith, same) in
    let read = c.block-item.is ∙ ap (λ l. get_or l i c.block-item.result) c.deref-block-items.ensures.value in
    let row = c.in_ok-targets.ensures ∙ successor_row blocks i c.block-item.result inside read in
    subst (λ l. rows l ≡ take (i + 1) all) (sym c.in_ok-push.ensures.items)
    (push_step c.loop-block.next.items c.in_ok-targets.field-0 all i (omega (arith, size, whole)) row c.loop-block.invariant)
