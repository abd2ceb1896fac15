use Rattle.std.proofs.Common.{ℕ, ◌<◌}
use Rattle.dcc_ir.specs.Views.{graph_of}
use Rattle.dcc_fold.specs.Chain.{IsFirst}
use Rattle.dcc_fold.specs.Found.{JoinsAlong, AreSeen}
use Rattle.dcc_fold.specs.Known.{known_of, IsBounded}
use Rattle.dcc_fold.proofs.search.Search.anywhere.Given as goal

abbrev pub invariant-loop-place : goal.invariant-loop-place
invariant-loop-place l = record {
  bounded : IsBounded (known_of l.known);
  seen : AreSeen (graph_of l.self.chains.graph.now) l.place l.seen.items;
  none : (first t : ℕ) → first < l.place → IsFirst (graph_of l.self.chains.graph.now) first → ¬ JoinsAlong (graph_of l.self.chains.graph.now) first t;
}
