use Rattle.dcc_machine_demand.proofs.LeftLaws.{left-stays}
use Rattle.dcc_machine_demand.proofs.what_is_left_stays.Goals as goal

pub returns : goal.returns
returns c = left-stays
