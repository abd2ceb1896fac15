use Rattle.dcc_ir.specs.Views.{graph_of}
use Rattle.dcc_ir.specs.WellFormed.{IsGraph}
use Rattle.dcc_copies.specs.Settled.{AreSettled}
use Rattle.dcc_copies.proofs.copies.settle_copies.Given as goal

abbrev pub invariant-loop : goal.invariant-loop
invariant-loop l = record {
  settled : AreSettled (graph_of l.initial.left) (graph_of l.left);
  formed : IsGraph (graph_of l.left);
}
