use Rattle.std.proofs.Common.{◌≡◌, [], length, drop, replicate}
use Rattle.dcc_flow.specs.Edges.{rows}
use Rattle.dcc_interval.specs.Reaching.{all_entered}
use Rattle.dcc_interval.proofs.reach.sources.Given as goal

abbrev pub invariant-loop-node : goal.invariant-loop-node
invariant-loop-node l = record {
  count : length l.sources.items ≡ length l.next.items;
  rest : all_entered (rows l.sources.items) (rows l.next.items) (drop l.node-index l.reached) ≡ all_entered (replicate (length (rows l.next.items)) []) (rows l.next.items) l.reached;
}
