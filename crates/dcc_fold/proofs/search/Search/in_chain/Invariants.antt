use Rattle.dcc_ir.specs.Views.{graph_of}
use Rattle.dcc_fold.specs.Known.{known_of}
use Rattle.dcc_fold.proofs.SeenLaws.{ComesTo, unseen}
use Rattle.dcc_fold.proofs.search.Search.in_chain.Given as goal

abbrev pub invariant-chain : goal.invariant-chain
invariant-chain l = ComesTo (graph_of l.self.chains.graph.now) l.first l.place (known_of l.known) l.seen.items

abbrev pub decreases-chain : goal.decreases-chain
decreases-chain l = unseen l.seen.items
