use Rattle.dcc_machine_demand.proofs.RefusedLaws.{accepted-is_not_refused}
use Rattle.dcc_machine_demand.proofs.accepted_is_not_refused.Goals as goal

pub returns : goal.returns
returns c = accepted-is_not_refused
