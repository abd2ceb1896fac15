use Rattle.std.proofs.Common.{◌≡◌, ◌<◌, length}
use Rattle.dcc_ir.specs.Views.{graph_of}
use Rattle.dcc_available.specs.Known.{known_of}
use Rattle.dcc_available.specs.Rows.{AreRewrittenRows}
use Rattle.dcc_available.proofs.ChainLaws.{IsThere}
use Rattle.dcc_available.proofs.substitution.Setting.rewrite_chain.Given as goal

abbrev pub invariant-chain : goal.invariant-chain
invariant-chain l = record {
  within : l.place < length l.self.graph.now.blocks.items;
  there : IsThere (graph_of l.self.graph.now) l.place (known_of l.known);
  count : length l.blocks.items ≡ length l.self.graph.now.blocks.items;
  rewritten : AreRewrittenRows (graph_of l.self.graph.now) l.blocks.items;
}
