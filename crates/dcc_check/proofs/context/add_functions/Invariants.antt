use Rattle.std.proofs.Common.{◌≡◌, map, drop}
use Rattle.std.specs.Prelude.{option_map}
use Rattle.dcc_c.specs.Known.{known_as, known_functions}
use Rattle.dcc_c.specs.Tree.{Word}
use Rattle.dcc_reader.specs.PartialViews.{function_of}
use Rattle.dcc_check.specs.Declarations.{first_found, held_head}
use Rattle.dcc_check.specs.Contexts.{head_of}
use Rattle.dcc_check.proofs.context.add_functions.Given as goal

-- with the functions that are left, all are there
abbrev pub invariant-loop-function : goal.invariant-loop-function
invariant-loop-function l = (word : Word) →
    first_found (held_head l.declared word) (option_map head_of (known_as (known_functions (map function_of (drop l.function-index l.functions))) word))
    ≡ first_found (held_head l.initial.declared word) (option_map head_of (known_as (known_functions (map function_of l.functions)) word))
