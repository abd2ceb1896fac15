use Rattle.dcc_demand.proofs.SpreadLaws.{changed_tells, changes_spread}
use Rattle.dcc_demand.proofs.spread_is_change.Goals as goal

pub returns : goal.returns
returns g c = λ i l. ((λ c. changed_tells g.P.SomeProcedures.procedures c), changes_spread g.P.SomeProcedures.procedures i l)
