use Rattle.dcc_variables.proofs.NoAddresses.{body-takes}
use Rattle.dcc_variables.proofs.laws.bodies_take_what_statements_take.Goals as goal

pub returns : goal.returns
returns c = body-takes
