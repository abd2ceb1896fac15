use Rattle.dcc_substitution.proofs.RunLaws.{available-holds}
use Rattle.dcc_substitution.proofs.available_holds.Goals as goal

pub returns : goal.returns
returns g c = available-holds g.A.SomeAvailability.available
