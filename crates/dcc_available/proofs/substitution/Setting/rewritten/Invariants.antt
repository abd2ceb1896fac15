use Rattle.std.proofs.Common.{◌≡◌, length}
use Rattle.dcc_ir.specs.Views.{graph_of}
use Rattle.dcc_available.specs.Rows.{AreRewrittenRows}
use Rattle.dcc_available.proofs.substitution.Setting.rewritten.Given as goal

abbrev pub invariant-loop-place : goal.invariant-loop-place
invariant-loop-place l = record {
  count : length l.blocks.items ≡ length l.self.graph.now.blocks.items;
  rewritten : AreRewrittenRows (graph_of l.self.graph.now) l.blocks.items;
}
