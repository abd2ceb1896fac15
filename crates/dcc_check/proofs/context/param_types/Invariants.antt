use Rattle.std.proofs.Common.{◌≡◌, ◌++◌, map, drop}
use Rattle.dcc_c.specs.Known.{type_list}
use Rattle.dcc_reader.specs.PartialViews.{variable_of}
use Rattle.dcc_check.proofs.context.param_types.Given as goal

-- with the types that are left, all are there
abbrev pub invariant-loop-param : goal.invariant-loop-param
invariant-loop-param l = l.types.items ++ type_list (map variable_of (drop l.param-index l.params)) ≡ type_list (map variable_of l.params)
