use Rattle.std.proofs.Common.{◌≡◌, take}
use Rattle.dcc_signatures.proofs.packing.value_places.Given as goal

abbrev pub invariant-loop-location : goal.invariant-loop-location
invariant-loop-location l = l.places.items ≡ take l.location-index l.results
