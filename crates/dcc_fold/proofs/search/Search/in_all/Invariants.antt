use Rattle.std.proofs.Common.{ℕ, map, take}
use Rattle.dcc_ir.specs.Views.{expr_of, graph_of}
use Rattle.dcc_fold.specs.Found.{IsFoundAmong}
use Rattle.dcc_fold.specs.Known.{known_of}
use Rattle.dcc_fold.proofs.search.Search.in_all.Given as goal

abbrev pub invariant-loop-e : goal.invariant-loop-e
invariant-loop-e l = (n : ℕ) → ¬ IsFoundAmong (graph_of l.self.chains.graph.now) (known_of l.known) (map expr_of (take l.e-index l.es)) n
