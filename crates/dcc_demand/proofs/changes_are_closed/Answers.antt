use Rattle.dcc_demand.proofs.ChangeLaws.{changes-closed}
use Rattle.dcc_demand.proofs.changes_are_closed.Goals as goal

pub returns : goal.returns
returns g c = changes-closed g.P.SomeProcedures.procedures
