use Rattle.std.proofs.Common.{◌≡◌, ℕ, ◌<◌, false}
use Rattle.dcc_ir.specs.Views.{graph_of}
use Rattle.dcc_flags.proofs.ToldLaws.{mixed_in}
use Rattle.dcc_flags.proofs.kept.is_kept.Given as goal

abbrev pub invariant-loop-place : goal.invariant-loop-place
invariant-loop-place l = (k : ℕ) → k < l.place → mixed_in (graph_of l.walk.graph.now) l.f l.table.items k ≡ false
