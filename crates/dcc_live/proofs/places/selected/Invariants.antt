use Rattle.std.proofs.Common.{◌≡◌, ◌-◌, ◌++◌, length, drop}
use Rattle.dcc_flow.specs.Marks.{selected}
use Rattle.dcc_live.proofs.places.selected.Given as goal

abbrev pub invariant-loop-place : goal.invariant-loop-place
invariant-loop-place l = l.locations.items ++ selected (drop l.from l.places) (drop l.from l.bits) ≡ selected l.places l.bits

abbrev pub decreases-loop-place : goal.decreases-loop-place
decreases-loop-place l = length l.bits - l.from
