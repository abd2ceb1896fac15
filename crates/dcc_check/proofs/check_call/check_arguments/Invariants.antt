use Rattle.std.proofs.Common.{◌≡◌, map, drop}
use Rattle.dcc_c.specs.Kinds.{first_after}
use Rattle.dcc_c.specs.Offences.{BodyContext, arguments_inner}
use Rattle.dcc_reader.specs.PartialViews.{expr_of}
use Rattle.dcc_reader.specs.Told.{told}
use Rattle.dcc_check.specs.Contexts.{IsContext}
use Rattle.dcc_check.proofs.check_call.check_arguments.Given as goal

-- with the arguments that are left, the first offence is that of all
abbrev pub invariant-loop-e : goal.invariant-loop-e
invariant-loop-e l = (s : BodyContext) → IsContext l.scene s →
    first_after (told l.first) (arguments_inner s (map expr_of (drop l.e-index l.arguments)))
    ≡ first_after (told l.initial.first) (arguments_inner s (map expr_of l.arguments))
