use Rattle.std.proofs.Common.{◌≡◌, map, drop}
use Rattle.std.specs.Prelude.{option_map}
use Rattle.dcc_c.specs.TextOffences.{declared_of}
use Rattle.dcc_c.specs.Tree.{Word}
use Rattle.dcc_c.specs.Typing.{declared_as}
use Rattle.dcc_reader.specs.PartialViews.{variable_of}
use Rattle.dcc_check.specs.Declarations.{placed_in, first_found}
use Rattle.dcc_ctypes.specs.NameViews.{unnamed}
use Rattle.dcc_check.specs.Contexts.{held}
use Rattle.dcc_check.proofs.context.declare.Given as goal

-- with the variables that are left, all are there
abbrev pub invariant-loop-variable : goal.invariant-loop-variable
invariant-loop-variable l = (word : Word) →
    first_found (held l.declared word) (option_map unnamed (declared_as (declared_of (placed_in l.scope) (map variable_of (drop l.variable-index l.variables))) word))
    ≡ first_found (held l.initial.declared word) (option_map unnamed (declared_as (declared_of (placed_in l.scope) (map variable_of l.variables)) word))
