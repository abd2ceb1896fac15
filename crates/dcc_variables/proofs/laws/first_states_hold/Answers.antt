use Rattle.std.proofs.Common.{subst}
use Rattle.std.specs.Prelude.{All, []}
use Rattle.std.proofs.lemmas.List.Elements.{All-head}
use Rattle.dcc_ir.specs.WellFormed.{IsGraph}
use Rattle.dcc_variables.proofs.FirstStates.{first-holds}
use Rattle.dcc_variables.proofs.laws.first_states_hold.Goals as goal

pub returns : goal.returns
returns g c p graph tree f fill input alike one whole few hi memory no_params locals =
    first-holds graph few (All-head IsGraph graph [] (subst (All IsGraph) one whole.graphs)) p one whole tree f g.A.SomeAlike.alike alike hi no_params locals fill memory input
