use Rattle.std.proofs.Common.{◌++◌, [], ◌∷◌, ap, ◌∙◌, arith}
use Rattle.std.specs.Prelude.{None, option_map}
use Rattle.std.proofs.lemmas.List.{map_push}
use Rattle.dcc_modref.specs.States.{state_of}
use Rattle.dcc_modref.specs.Tables.{states_of}
use Rattle.dcc_modref.proofs.CodeLaws.{more_first}
use Rattle.dcc_modref.proofs.graph.entered.Goals as goal

pub loop-preserved : goal.loop-preserved
loop-preserved c = record {
  some = omega (arith, c.loop.invariant.some);
  begins = ap states_of c.in_ok-push-2.ensures.items ∙ map_push (option_map state_of) c.loop.begins.items None ∙ ap (λ l. l ++ None ∷ []) c.loop.invariant.begins ∙ more_first c.loop.counter c.loop.invariant.some;
}
