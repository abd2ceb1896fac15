use Rattle.dcc_machine.proofs.LocationKept.{locations-kept}
use Rattle.dcc_machine.proofs.laws.what_is_not_written_stays.Goals as goal

pub returns : goal.returns
returns c = locations-kept
