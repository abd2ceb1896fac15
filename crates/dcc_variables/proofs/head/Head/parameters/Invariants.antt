use Rattle.std.proofs.Common.{◌≡◌, ◌++◌, map, drop}
use Rattle.dcc_c.specs.Views.{variable_of}
use Rattle.dcc_variables.specs.Views.{shape_in}
use Rattle.dcc_variables.specs.Functions.{parameters_from}
use Rattle.dcc_variables.proofs.head.Head.parameters.Given as goal

-- with the parameters that are left, all are there
abbrev pub invariant-loop-place : goal.invariant-loop-place
invariant-loop-place l =
    let bits = (shape_in l.self.variables).bits in
    map variable_of l.list.items ++ parameters_from bits l.place (drop l.place l.self.params.items) ≡ parameters_from bits 0 l.self.params.items
