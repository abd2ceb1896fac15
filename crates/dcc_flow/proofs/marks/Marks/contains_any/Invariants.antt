use Rattle.std.proofs.Common.{◌≡◌, drop}
use Rattle.std.specs.List.{list_any}
use Rattle.dcc_flow.specs.Marks.{members}
use Rattle.dcc_flow.proofs.marks.Marks.contains_any.Given as goal

abbrev pub invariant-loop-location : goal.invariant-loop-location
invariant-loop-location l = list_any (members l.self) (drop l.location-index l.locations) ≡ list_any (members l.self) l.locations
