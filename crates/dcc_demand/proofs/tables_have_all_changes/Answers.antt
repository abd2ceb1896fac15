use Rattle.dcc_demand.proofs.TableLaws.{all_changed}
use Rattle.dcc_demand.proofs.tables_have_all_changes.Goals as goal

pub returns : goal.returns
returns g c = all_changed g.P.SomeProcedures.procedures
