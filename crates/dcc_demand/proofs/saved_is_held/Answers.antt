use Rattle.dcc_demand.proofs.SaveLaws.{saves_held}
use Rattle.dcc_demand.proofs.saved_is_held.Goals as goal

pub returns : goal.returns
returns g c = λ i l passed saves. saves_held g.P.SomeProcedures.changed (g.P.SomeProcedures.procedures.procedure i) l saves
