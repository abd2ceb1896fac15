use Rattle.std.proofs.Common.{◌≡◌, length, drop}
use Rattle.dcc_flow.specs.Edges.{rows}
use Rattle.dcc_interval.specs.Reaching.{entered}
use Rattle.dcc_interval.proofs.reach.enter.Given as goal

abbrev pub invariant-loop-to : goal.invariant-loop-to
invariant-loop-to l = record {
  count : length l.sources.items ≡ length l.initial.sources.items;
  rest : entered (rows l.sources.items) l.from (drop l.to-index l.tos) ≡ entered (rows l.initial.sources.items) l.from l.tos;
}
