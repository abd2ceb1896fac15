use Rattle.std.proofs.Common.{◌≡◌, [], replicate}
use Rattle.dcc_flow.specs.Edges.{rows}
use Rattle.dcc_flow.proofs.edges.no_sources.Given as goal

abbrev pub invariant-loop : goal.invariant-loop
invariant-loop l = rows l.lists.items ≡ replicate l.counter []
