use Rattle.std.proofs.Common.{◌≡◌, ℕ, ◌<◌, false}
use Rattle.dcc_ir.specs.Views.{graph_of}
use Rattle.dcc_modref.specs.States.{told_in}
use Rattle.dcc_modref.specs.Tables.{states_of}
use Rattle.dcc_modref.specs.Flowing.{loses_at}
use Rattle.dcc_modref.proofs.graph.any_loses.Given as goal

abbrev pub invariant-loop-at : goal.invariant-loop-at
invariant-loop-at l = (block : ℕ) → block < l.at → loses_at (told_in l.subject.changed.now) (graph_of l.subject.graph.now) l.subject.location (states_of l.begins.items) block ≡ false
