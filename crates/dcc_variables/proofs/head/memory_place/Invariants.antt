use Rattle.std.proofs.Common.{◌≡◌, drop}
use Rattle.dcc_variables.specs.Functions.{memory_from}
use Rattle.dcc_variables.proofs.head.memory_place.Given as goal

-- none of the params so far is in memory
abbrev pub invariant-loop-place : goal.invariant-loop-place
invariant-loop-place l = memory_from l.place (drop l.place l.params) ≡ memory_from 0 l.params
