use Rattle.std.proofs.Common.{◌≡◌, ◌++◌, map, drop}
use Rattle.dcc_c.specs.TextOffences.{function_names}
use Rattle.dcc_reader.specs.PartialViews.{function_of}
use Rattle.dcc_check.specs.Names.{lent_names}
use Rattle.dcc_check.proofs.names.function_names.Given as goal

-- with the names of the functions that are left, all are there
abbrev pub invariant-loop-function : goal.invariant-loop-function
invariant-loop-function l =
    lent_names l.names.items ++ function_names (map function_of (drop l.function-index l.functions))
    ≡ lent_names l.initial.names.items ++ function_names (map function_of l.functions)
