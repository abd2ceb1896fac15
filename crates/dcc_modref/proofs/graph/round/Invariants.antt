use Rattle.std.proofs.Common.{◌<◌}
use Rattle.dcc_ir.specs.Views.{graph_of}
use Rattle.dcc_modref.specs.States.{told_in}
use Rattle.dcc_modref.specs.Tables.{states_of, AreFlowing}
use Rattle.dcc_modref.specs.Flowing.{HasTurned}
use Rattle.dcc_modref.proofs.graph.round.Given as goal

abbrev pub invariant-loop-at : goal.invariant-loop-at
invariant-loop-at l = record {
  going : AreFlowing (told_in l.subject.changed.now) (graph_of l.subject.graph.now) l.subject.location (states_of l.begins.items);
  turned : HasTurned (told_in l.subject.changed.now) (graph_of l.subject.graph.now) l.subject.location (states_of l.initial.begins.items) (states_of l.begins.items) l.new (λ k. k < l.at);
}
