use Rattle.std.proofs.Common.{◌+◌, length, map, sym, subst, arith}
use Rattle.dcc_ir.specs.Views.{block_of, graph_of}
use Rattle.dcc_graph_rows.proofs.FineGraphs.{AreFine, fine_none, fine_more, fine_graph}
use Rattle.dcc_graph_rows.proofs.graphs.graph.Goals as goal

pub loop-at-init : goal.loop-at-init
loop-at-init g c = subst (λ l. AreFine (length c.args.lines.now) 0 (map block_of l)) (sym c.new-blocks.ensures.items) (fine_none (length c.args.lines.now))

pub loop-at-preserved : goal.loop-at-preserved
loop-at-preserved g c =
    let count = length c.args.lines.now in
    let at = c.loop-at.at in
    let h = c.in_ok-block.ensures in
    subst (λ l. AreFine count (at + 1) (map block_of l)) (sym c.in_ok-push.ensures.items)
    (fine_more count at c.loop-at.blocks.items c.in_ok-block.field-0 c.loop-at.invariant h.at h.jumps h.fine)

pub returns : goal.returns
returns g c =
    fine_graph
    (graph_of (record {
      entry = 0;
      params = c.new.result;
      local = 0;
      pushed = 0;
      blocks = c.loop-at.blocks;
      bits = c.new-2.result;
    }))
    (length c.args.lines.now) c.loop-at.at c.loop-at.invariant (omega arith) (omega arith) (omega arith)
    (omega arith) c.new.ensures.items c.new-2.ensures.items
