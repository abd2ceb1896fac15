use Rattle.std.proofs.Common.{◌≡◌, [], replicate}
use Rattle.dcc_flow.specs.Edges.{rows}
use Rattle.dcc_interval.proofs.reach.no_sources.Given as goal

abbrev pub invariant-loop : goal.invariant-loop
invariant-loop l = rows l.lists.items ≡ replicate l.counter []
