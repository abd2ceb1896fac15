use Rattle.std.proofs.Common.{◌≡◌, map, take}
use Rattle.dcc_ir.specs.Views.{expr_of}
use Rattle.dcc_ir.specs.Tree.{Get}
use Rattle.dcc_lift.proofs.passed.passed_values.Given as goal

abbrev pub invariant-loop-location : goal.invariant-loop-location
invariant-loop-location l = map expr_of l.values.items ≡ map Get (take l.location-index l.location-items)
