use Rattle.std.proofs.Common.{◌≡◌, map, drop}
use Rattle.std.specs.Prelude.{option_map}
use Rattle.dcc_c.specs.Tree.{Word}
use Rattle.dcc_c.specs.Typing.{declared_as}
use Rattle.dcc_c.specs.Rules.{declared_local}
use Rattle.dcc_c.specs.Views.{variable_of}
use Rattle.dcc_ctypes.specs.NameViews.{unnamed}
use Rattle.dcc_check.specs.Contexts.{held}
use Rattle.dcc_check.specs.Declarations.{first_found}
use Rattle.dcc_rewrite.proofs.names.add_locals.Given as goal

-- with the variables that are left, all are there
abbrev pub invariant-loop-v : goal.invariant-loop-v
invariant-loop-v l = (word : Word) →
    first_found (held l.declared word) (option_map unnamed (declared_as (map declared_local (map variable_of (drop l.v-index l.locals))) word))
    ≡ first_found (held l.initial.declared word) (option_map unnamed (declared_as (map declared_local (map variable_of l.locals)) word))
