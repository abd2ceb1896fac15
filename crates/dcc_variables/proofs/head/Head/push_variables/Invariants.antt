use Rattle.std.proofs.Common.{◌≡◌, ◌++◌, map, take}
use Rattle.std.specs.Prelude.{filter}
use Rattle.dcc_c.specs.Views.{variable_of}
use Rattle.dcc_variables.specs.Variables.{variable}
use Rattle.dcc_variables.specs.Views.{shape_in}
use Rattle.dcc_variables.specs.Functions.{is_no_parameter}
use Rattle.dcc_variables.proofs.head.Head.push_variables.Given as goal

-- the variables of the locations so far are there
abbrev pub invariant-loop-location : goal.invariant-loop-location
invariant-loop-location l =
    map variable_of l.list.items ≡ map variable_of l.initial.list.items
    ++ map (variable (shape_in l.self.variables)) (filter (is_no_parameter l.self.params.items) (take l.location-index l.self.variables.locations.items))
