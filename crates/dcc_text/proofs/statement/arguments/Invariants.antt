use Rattle.std.proofs.Common.{◌≡◌, false, map, take}
use Rattle.dcc_ir.specs.Views.{expr_of as inner_of}
use Rattle.dcc_c.specs.Views.{expr_of}
use Rattle.dcc_text.specs.Spelled as spec
use Rattle.dcc_text.proofs.statement.arguments.Given as goal

abbrev pub invariant-loop-e : goal.invariant-loop-e
invariant-loop-e g l =
    map expr_of l.arguments.items ≡ map (spec.text (g.S.Spells.spelling l.s) spec.Low false) (map inner_of (take l.e-index l.es))
