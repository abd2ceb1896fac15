use Rattle.dcc_variables.proofs.NoAddresses.{texts-take-none}
use Rattle.dcc_variables.proofs.laws.texts_take_no_address.Goals as goal

pub returns : goal.returns
returns c = texts-take-none
