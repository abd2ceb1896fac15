use Rattle.std.proofs.Common.{◌≡◌, ◌++◌, map}
use Rattle.std.specs.List.{range_with_len}
use Rattle.dcc_summaries.specs.Points.{point_at}
use Rattle.dcc_summaries.proofs.points.add_block.Given as goal

abbrev pub invariant-loop-done : goal.invariant-loop-done
invariant-loop-done l = l.points.items ≡ l.initial.points.items ++ map (point_at l.graph l.block) (range_with_len 0 l.done)
