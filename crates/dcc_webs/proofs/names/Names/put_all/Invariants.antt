use Rattle.std.proofs.Common.{◌≡◌, drop}
use Rattle.dcc_webs.specs.Names.{names_of, all_with_numbers}
use Rattle.dcc_webs.proofs.names.Names.put_all.Given as goal

abbrev pub invariant-loop-location : goal.invariant-loop-location
invariant-loop-location l = all_with_numbers (names_of l.self) (drop l.location-index l.locations) ≡ all_with_numbers (names_of l.initial.self) l.locations
