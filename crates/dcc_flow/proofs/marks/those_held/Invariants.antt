use Rattle.std.proofs.Common.{◌≡◌, ◌++◌, drop, filter}
use Rattle.dcc_flow.specs.Marks.{members}
use Rattle.dcc_flow.proofs.marks.those_held.Given as goal

abbrev pub invariant-loop-location : goal.invariant-loop-location
invariant-loop-location l = l.list.items ++ filter (members l.has) (drop l.location-index l.locations) ≡ filter (members l.has) l.locations
