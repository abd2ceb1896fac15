use Rattle.std.proofs.Common.{◌≡◌, map, take}
use Rattle.dcc_ir.specs.Views.{expr_of}
use Rattle.dcc_ir.specs.Plain.{state_of}
use Rattle.dcc_ir.specs.Run.{value_in}
use Rattle.dcc_ir.proofs.plain.state.PlainRun.values.Given as goal

-- the values of the expressions so far
abbrev pub invariant-loop-e : goal.invariant-loop-e
invariant-loop-e l = l.values.items ≡ map (value_in (state_of l.self)) (map expr_of (take l.e-index l.es))
