use Rattle.dcc_demand.proofs.ChangeLaws.{loss-monotone}
use Rattle.dcc_demand.proofs.loss_is_monotone.Goals as goal

pub returns : goal.returns
returns g c = loss-monotone g.P.SomeProcedures.procedures g.P.SomeProcedures.changed g.P.SomeProcedures.wider
