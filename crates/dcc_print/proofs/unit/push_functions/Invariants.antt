use Rattle.std.proofs.Common.{◌≡◌, ◌++◌, map, drop, string_bytes}
use Rattle.dcc_c.specs.Written.{written_functions}
use Rattle.dcc_c.specs.Views.{function_of}
use Rattle.dcc_print.proofs.unit.push_functions.Given as goal

abbrev pub invariant-loop-function : goal.invariant-loop-function
invariant-loop-function l =
    string_bytes l.text ++ written_functions (map function_of (drop l.function-index l.functions))
    ≡ string_bytes l.initial.text ++ written_functions (map function_of l.functions)
