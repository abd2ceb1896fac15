use Rattle.std.proofs.Common.{◌≡◌, ◌++◌, drop, take}
use Rattle.dcc_prepare.specs.Frames.{params_holding, locals_holding}
use Rattle.dcc_prepare.proofs.program.Procedure.variables.Given as goal

-- with the parameters that are left, all are there
abbrev pub invariant-loop-i : goal.invariant-loop-i
invariant-loop-i l =
    l.variables.items ++ params_holding l.base (drop l.i l.self.params.items) (drop l.i l.arguments)
    ≡ params_holding l.base l.self.params.items l.arguments

-- the local variables so far are after the parameters
abbrev pub invariant-loop-local : goal.invariant-loop-local
invariant-loop-local l =
    l.variables.items
    ≡ params_holding l.base l.self.params.items l.arguments ++ locals_holding l.base l.fill (take l.local-index l.self.locals.items)
