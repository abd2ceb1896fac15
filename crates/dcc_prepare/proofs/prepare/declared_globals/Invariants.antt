use Rattle.std.proofs.Common.{◌≡◌, map, take}
use Rattle.dcc_c.specs.Rules.{declared_global}
use Rattle.dcc_c.specs.Views.{global_of}
use Rattle.dcc_value.specs.Evaluation.{declared_of}
use Rattle.dcc_prepare.proofs.prepare.declared_globals.Given as goal

-- the names so far
abbrev pub invariant-loop-global : goal.invariant-loop-global
invariant-loop-global l = map declared_of l.names.items ≡ map declared_global (map global_of (take l.global-index l.globals))
