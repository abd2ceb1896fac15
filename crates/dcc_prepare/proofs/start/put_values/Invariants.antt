use Rattle.std.proofs.Common.{◌≡◌, drop}
use Rattle.dcc_c.specs.Run.{with_values}
use Rattle.dcc_prepare.proofs.start.put_values.Given as goal

-- with the values that are left, all are there
abbrev pub invariant-loop-n : goal.invariant-loop-n
invariant-loop-n l =
    with_values l.global.ty l.at (drop l.n-index l.global.init.items) l.memory
    ≡ with_values l.global.ty l.global.at l.global.init.items l.initial.memory
