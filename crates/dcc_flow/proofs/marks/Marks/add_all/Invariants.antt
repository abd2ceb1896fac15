use Rattle.std.proofs.Common.{◌≡◌, drop}
use Rattle.dcc_flow.specs.Marks.{members, with_all}
use Rattle.dcc_flow.proofs.marks.Marks.add_all.Given as goal

abbrev pub invariant-loop-location : goal.invariant-loop-location
invariant-loop-location l = with_all (members l.self) (drop l.location-index l.locations) ≡ with_all (members l.initial.self) l.locations
