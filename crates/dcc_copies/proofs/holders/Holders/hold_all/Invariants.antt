use Rattle.std.proofs.Common.{◌≡◌, true, take}
use Rattle.std.specs.List.{list_all}
use Rattle.dcc_copies.specs.Holders.{holders_of, is_held}
use Rattle.dcc_copies.proofs.holders.Holders.hold_all.Given as goal

abbrev pub invariant-loop-location : goal.invariant-loop-location
invariant-loop-location l = list_all (is_held l.names.of.items (holders_of l.self)) (take l.location-index l.locations) ≡ true
