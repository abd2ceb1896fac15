use Rattle.std.proofs.Common.{◌≡◌, map, take}
use Rattle.dcc_prepare.specs.Prepared.{global_bound}
use Rattle.dcc_prepare.proofs.prepare.global_bindings.Given as goal

-- the variables so far
abbrev pub invariant-loop-global : goal.invariant-loop-global
invariant-loop-global l = l.bindings.items ≡ map global_bound (take l.global-index l.globals)
