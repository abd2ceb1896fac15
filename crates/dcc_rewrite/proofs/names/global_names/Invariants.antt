use Rattle.std.proofs.Common.{◌≡◌, map, drop}
use Rattle.std.specs.Prelude.{option_map}
use Rattle.dcc_c.specs.Tree.{Word}
use Rattle.dcc_c.specs.Typing.{declared_as}
use Rattle.dcc_c.specs.Rules.{declared_global}
use Rattle.dcc_c.specs.Views.{global_of}
use Rattle.dcc_ctypes.specs.NameViews.{unnamed}
use Rattle.dcc_check.specs.Contexts.{held}
use Rattle.dcc_check.specs.Declarations.{first_found}
use Rattle.dcc_rewrite.proofs.names.global_names.Given as goal

-- with the variables that are left, all are there
abbrev pub invariant-loop-g : goal.invariant-loop-g
invariant-loop-g l = (word : Word) →
    first_found (held l.declared word) (option_map unnamed (declared_as (map declared_global (map global_of (drop l.g-index l.globals))) word))
    ≡ option_map unnamed (declared_as (map declared_global (map global_of l.globals)) word)
