use Rattle.std.proofs.Common.{◌≡◌, drop}
use Rattle.dcc_flow.specs.Places.{with_places}
use Rattle.dcc_flow.proofs.places.Places.add_all.Given as goal

abbrev pub invariant-loop-location : goal.invariant-loop-location
invariant-loop-location l = with_places l.self (drop l.location-index l.locations) ≡ with_places l.initial.self l.locations
