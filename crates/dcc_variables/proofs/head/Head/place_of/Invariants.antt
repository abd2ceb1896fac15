use Rattle.std.proofs.Common.{◌≡◌, drop}
use Rattle.dcc_variables.specs.Functions.{place_from}
use Rattle.dcc_variables.proofs.head.Head.place_of.Given as goal

-- the location is none of the params so far
abbrev pub invariant-loop-place : goal.invariant-loop-place
invariant-loop-place l = place_from l.place (drop l.place l.self.params.items) l.location ≡ place_from 0 l.self.params.items l.location
