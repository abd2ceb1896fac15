use Rattle.dcc_demand.proofs.ChangeLaws.{changes-least}
use Rattle.dcc_demand.proofs.closed_families_have_all_changes.Goals as goal

pub returns : goal.returns
returns g c = changes-least g.P.SomeProcedures.procedures g.P.SomeProcedures.changed
