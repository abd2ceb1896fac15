use Rattle.std.proofs.Common.{map, drop}
use Rattle.dcc_c.specs.Placement.{local_places}
use Rattle.dcc_c.specs.Views.{variable_of}
use Rattle.dcc_prepare.specs.Placing.{ArePlaced}
use Rattle.dcc_prepare.proofs.placement.locals_of.Given as goal

-- with the places of the variables that are left, all are there
abbrev pub invariant-loop-local : goal.invariant-loop-local
invariant-loop-local l = ArePlaced (map variable_of l.locals) (λ base. local_places base 4 (map variable_of l.locals))
    (map variable_of (drop l.local-index l.locals)) (λ base left. local_places base l.used left) l.variables.items
