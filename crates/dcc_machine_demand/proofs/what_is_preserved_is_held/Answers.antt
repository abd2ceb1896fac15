use Rattle.dcc_machine_demand.proofs.PlaceLaws.{preserved-held}
use Rattle.dcc_machine_demand.proofs.what_is_preserved_is_held.Goals as goal

pub returns : goal.returns
returns c = preserved-held
