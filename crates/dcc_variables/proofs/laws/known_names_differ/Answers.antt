use Rattle.dcc_variables.proofs.Words.{known-differ-all}
use Rattle.dcc_variables.proofs.laws.known_names_differ.Goals as goal

pub returns : goal.returns
returns c p tree well globals functions = known-differ-all p tree well globals functions
