use Rattle.dcc_machine.proofs.AlikeMade.{one-location}
use Rattle.dcc_machine.proofs.laws.one_location_changes_what_is_made_of_it.Goals as goal

pub returns : goal.returns
returns c = one-location
