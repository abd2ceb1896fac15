use Rattle.std.proofs.Common.{◌≡◌, drop}
use Rattle.dcc_prepare.specs.Frames.{arguments_put}
use Rattle.dcc_prepare.proofs.program.Procedure.put_arguments.Given as goal

-- with the arguments that are left, all are written
abbrev pub invariant-loop-i : goal.invariant-loop-i
invariant-loop-i l =
    arguments_put l.base (drop l.i l.self.params.items) (drop l.i l.arguments) l.memory
    ≡ arguments_put l.base l.self.params.items l.arguments l.initial.memory
