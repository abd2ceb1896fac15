use Rattle.dcc_variables.proofs.Names.{spelling-is}
use Rattle.dcc_variables.proofs.laws.names_differ.Goals as goal

pub returns : goal.returns
returns c graph few = spelling-is graph few
