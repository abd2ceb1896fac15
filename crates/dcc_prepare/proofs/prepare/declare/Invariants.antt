use Rattle.std.proofs.Common.{◌≡◌, ◌++◌, map, drop}
use Rattle.dcc_value.specs.Evaluation.{declared_of}
use Rattle.dcc_prepare.specs.Prepared.{names_declared}
use Rattle.dcc_prepare.proofs.prepare.declare.Given as goal

-- with the names that are left, all are there
abbrev pub invariant-loop-i : goal.invariant-loop-i
invariant-loop-i l =
    map declared_of l.names.items ++ names_declared (drop l.i l.declared) (drop l.i l.variables)
    ≡ map declared_of l.initial.names.items ++ names_declared l.declared l.variables
