use Rattle.std.proofs.Common.{◌≡◌, map, take}
use Rattle.dcc_ir.specs.Views.{expr_of}
use Rattle.dcc_flags.specs.Folding.{choices_of, with_choices}
use Rattle.dcc_flags.proofs.choices.Choices.within_all.Given as goal

abbrev pub invariant-loop-e : goal.invariant-loop-e
invariant-loop-e l = map expr_of l.all.items ≡ map (with_choices (choices_of l.self)) (map expr_of (take l.e-index l.es))
