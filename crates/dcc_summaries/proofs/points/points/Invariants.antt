use Rattle.std.proofs.Common.{◌≡◌, flat_map}
use Rattle.std.specs.List.{range_with_len}
use Rattle.dcc_ir.specs.Views.{program_of}
use Rattle.dcc_summaries.specs.Points.{graph_in, graph_points}
use Rattle.dcc_summaries.proofs.points.points.Given as goal

abbrev pub invariant-loop-place : goal.invariant-loop-place
invariant-loop-place l = l.points.items ≡ flat_map (λ g. graph_points g (graph_in (program_of l.p) g)) (range_with_len 0 l.place)
