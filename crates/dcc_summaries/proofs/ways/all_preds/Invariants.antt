use Rattle.std.proofs.Common.{◌≡◌, ℕ, ◌<◌, [], length, get_or}
use Rattle.dcc_flow.specs.Edges.{successors_of, ArePredecessors}
use Rattle.dcc_ir.specs.Views.{program_of}
use Rattle.dcc_summaries.specs.Points.{graph_in}
use Rattle.dcc_summaries.specs.Ways.{lists_in}
use Rattle.dcc_summaries.proofs.ways.all_preds.Given as goal

abbrev pub invariant-loop-graph : goal.invariant-loop-graph
invariant-loop-graph l = record {
  count : length l.lists.items ≡ l.graph-index;
  exact : (place : ℕ) → place < l.graph-index → ArePredecessors (successors_of (graph_in (program_of l.p) place)) (get_or (lists_in l.lists.items) place []);
}
