use Rattle.dcc_demand.proofs.TableLaws.{all_wanted}
use Rattle.dcc_demand.proofs.tables_have_all_wanted.Goals as goal

pub returns : goal.returns
returns g c = all_wanted g.P.SomeProcedures.procedures
