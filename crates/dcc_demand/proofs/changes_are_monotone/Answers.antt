use Rattle.dcc_demand.proofs.ChangeLaws.{changes-monotone}
use Rattle.dcc_demand.proofs.changes_are_monotone.Goals as goal

pub returns : goal.returns
returns g c = changes-monotone g.P.SomeProcedures.procedures g.P.SomeProcedures.more
