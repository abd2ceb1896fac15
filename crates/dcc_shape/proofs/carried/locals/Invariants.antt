use Rattle.std.proofs.Common.{◌≡◌, take}
use Rattle.std.specs.List.{list_any}
use Rattle.dcc_c.specs.Tree.{Word}
use Rattle.dcc_shape.specs.Carrying.{holds, is_such}
use Rattle.dcc_shape.proofs.carried.locals.Given as goal

-- the names of those so far
abbrev pub invariant-loop-variable : goal.invariant-loop-variable
invariant-loop-variable l = (word : Word) → holds l.names word
    ≡ list_any (is_such l.auto' word) (take l.variable-index l.function.locals.items)
