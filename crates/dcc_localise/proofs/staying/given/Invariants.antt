use Rattle.std.proofs.Common.{◌≡◌, map, take}
use Rattle.dcc_ir.specs.Live.{is_among}
use Rattle.dcc_localise.proofs.staying.given.Given as goal

abbrev pub invariant-loop-location : goal.invariant-loop-location
invariant-loop-location l =
    l.stays.items ≡ map (λ location. is_among l.locations location) (take l.location-index l.location-items)
