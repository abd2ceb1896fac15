use Rattle.std.proofs.Common.{◌≡◌, ◌++◌, map, drop}
use Rattle.dcc_c.specs.TextOffences.{name_list}
use Rattle.dcc_reader.specs.PartialViews.{variable_of}
use Rattle.dcc_check.specs.Names.{lent_names}
use Rattle.dcc_check.proofs.names.variable_names.Given as goal

-- with the names of the variables that are left, all are there
abbrev pub invariant-loop-variable : goal.invariant-loop-variable
invariant-loop-variable l =
    lent_names l.names.items ++ name_list (map variable_of (drop l.variable-index l.variables))
    ≡ lent_names l.initial.names.items ++ name_list (map variable_of l.variables)
