use Rattle.dcc_simulation.proofs.Addresses.{addresses-told}
use Rattle.dcc_simulation.proofs.laws.addresses_are_told.Goals as goal

pub returns : goal.returns
returns c = addresses-told
