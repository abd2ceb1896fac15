use Rattle.dcc_ir.specs.Views.{graph_of}
use Rattle.dcc_modref.specs.States.{told_in}
use Rattle.dcc_modref.specs.Tables.{states_of, words_of, left_in, AreFlowing}
use Rattle.dcc_modref.proofs.graph.spread.Given as goal

abbrev pub invariant-loop-blocks : goal.invariant-loop-blocks
invariant-loop-blocks l = AreFlowing (told_in l.subject.changed.now) (graph_of l.subject.graph.now) l.subject.location (states_of l.begins.items)

abbrev pub decreases-loop-blocks : goal.decreases-loop-blocks
decreases-loop-blocks l = left_in (words_of l.subject.location (graph_of l.subject.graph.now)) (states_of l.begins.items)
