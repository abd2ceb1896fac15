use Rattle.dcc_demand.proofs.SaveLaws.{preserved-is_held}
use Rattle.dcc_demand.proofs.preserved_is_held.Goals as goal

pub returns : goal.returns
returns g c = preserved-is_held g.P.SomeProcedures.procedures
