use Rattle.dcc_demand.specs.Changes.{Changes}
use Rattle.dcc_demand.proofs.WantedLaws.{wanted-closed}
use Rattle.dcc_demand.proofs.wanted_is_closed.Goals as goal

pub returns : goal.returns
returns g c = wanted-closed g.P.SomeProcedures.procedures (Changes g.P.SomeProcedures.procedures)
