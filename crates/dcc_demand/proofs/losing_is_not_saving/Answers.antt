use Rattle.dcc_demand.proofs.SaveLaws.{losing-not_saving}
use Rattle.dcc_demand.proofs.losing_is_not_saving.Goals as goal

pub returns : goal.returns
returns g c = losing-not_saving g.P.SomeProcedures.procedures g.P.SomeProcedures.changed
