use Rattle.std.proofs.Common.{◌≡◌, map, take}
use Rattle.dcc_c.specs.Views.{variable_of}
use Rattle.dcc_variables.specs.Variables.{variable}
use Rattle.dcc_variables.specs.Views.{shape_in}
use Rattle.dcc_variables.proofs.variables.Variables.declarations.Given as goal

abbrev pub invariant-loop-location : goal.invariant-loop-location
invariant-loop-location l = map variable_of l.list.items ≡ map (variable (shape_in l.self)) (take l.location-index l.self.locations.items)
