use Rattle.std.proofs.Common.{◌≡◌, ◌++◌, map, drop}
use Rattle.dcc_c.specs.Known.{known_functions}
use Rattle.dcc_c.specs.TextOffences.{words_of}
use Rattle.dcc_reader.specs.PartialViews.{function_of}
use Rattle.dcc_check.specs.Names.{lent_names}
use Rattle.dcc_check.proofs.names.known_names.Given as goal

-- with the names of the functions that are left, all are there
abbrev pub invariant-loop-function : goal.invariant-loop-function
invariant-loop-function l =
    words_of (lent_names l.names.items) ++ map (λ k. k.name) (known_functions (map function_of (drop l.function-index l.functions)))
    ≡ words_of (lent_names l.initial.names.items) ++ map (λ k. k.name) (known_functions (map function_of l.functions))
