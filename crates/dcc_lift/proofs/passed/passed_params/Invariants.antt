use Rattle.std.proofs.Common.{◌≡◌, map, take}
use Rattle.dcc_ir.specs.Passing.{param_of}
use Rattle.dcc_lift.proofs.passed.passed_params.Given as goal

abbrev pub invariant-loop-location : goal.invariant-loop-location
invariant-loop-location l = l.params.items ≡ map param_of (take l.location-index l.location-items)
