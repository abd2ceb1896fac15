use Rattle.std.proofs.Common.{◌≡◌, ◌++◌, flat_map}
use Rattle.std.specs.List.{range_with_len}
use Rattle.dcc_ir.specs.Views.{graph_of}
use Rattle.dcc_ir.specs.Live.{block_in}
use Rattle.dcc_summaries.specs.Points.{block_points}
use Rattle.dcc_summaries.proofs.points.add_graph.Given as goal

abbrev pub invariant-loop-block : goal.invariant-loop-block
invariant-loop-block l = l.points.items ≡ l.initial.points.items ++ flat_map (λ b. block_points l.place b (block_in (graph_of l.graph) b)) (range_with_len 0 l.block)
