use Rattle.std.proofs.Common.{◌≡◌, take}
use Rattle.dcc_control.specs.GotoPlan as spec
use Rattle.dcc_control.proofs.goto_plan.distinct.Given as goal

abbrev pub invariant-loop-place : goal.invariant-loop-place
invariant-loop-place l = l.set.keys ≡ spec.distinct (take l.place-index l.places)
