use Rattle.std.proofs.Common.{◌≡◌, map, drop}
use Rattle.std.specs.Prelude.{option_map}
use Rattle.dcc_c.specs.Run.{function_in, param_types}
use Rattle.dcc_c.specs.Tree.{Word}
use Rattle.dcc_c.specs.Views.{function_of}
use Rattle.dcc_check.specs.Declarations.{first_found}
use Rattle.dcc_casts.specs.Views.{held_params}
use Rattle.dcc_casts.proofs.functions.add_functions.Given as goal

-- with the functions that are left, all are there
abbrev pub invariant-loop-f : goal.invariant-loop-f
invariant-loop-f l = (word : Word) →
    first_found (held_params l.functions word) (option_map param_types (function_in (map function_of (drop l.f-index l.funcs)) word))
    ≡ first_found (held_params l.initial.functions word) (option_map param_types (function_in (map function_of l.funcs) word))
