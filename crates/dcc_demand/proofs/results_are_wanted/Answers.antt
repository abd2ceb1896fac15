use Rattle.dcc_demand.proofs.WantedLaws.{results-wanted}
use Rattle.dcc_demand.proofs.results_are_wanted.Goals as goal

pub returns : goal.returns
returns g c = results-wanted g.P.SomeProcedures.procedures
