use Rattle.std.proofs.Common.{◌≡◌, [], length, drop, replicate}
use Rattle.dcc_flow.specs.Edges.{rows}
use Rattle.dcc_flow.specs.Sources.{all_entered}
use Rattle.dcc_flow.proofs.edges.sources.Given as goal

abbrev pub invariant-loop-from : goal.invariant-loop-from
invariant-loop-from l = record {
  count : length l.sources.items ≡ length l.next.items;
  rest : all_entered (rows l.sources.items) l.from (drop l.from (rows l.next.items)) ≡ all_entered (replicate (length (rows l.next.items)) []) 0 (rows l.next.items);
}
