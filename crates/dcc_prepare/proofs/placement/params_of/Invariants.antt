use Rattle.std.proofs.Common.{◌≡◌, ◌*◌, ◌%◌, ℕ, map, drop, false}
use Rattle.dcc_c.specs.Placement.{param_places}
use Rattle.dcc_c.specs.Views.{variable_of, lines_of}
use Rattle.dcc_prepare.specs.Placing.{ArePlaced}
use Rattle.dcc_prepare.proofs.placement.params_of.Given as goal

-- with the places of the parameters that are left, all are there
abbrev pub invariant-loop-param : goal.invariant-loop-param
invariant-loop-param l = (number : ℕ) × (l.offset ≡ (2 * number) % 65536) ×
    ArePlaced (map variable_of l.params) (λ base. param_places (lines_of l.body) base 0 false (map variable_of l.params))
    (map variable_of (drop l.param-index l.params)) (λ base left. param_places (lines_of l.body) base number l.placed left) l.variables.items
