use Rattle.dcc_variables.proofs.Declared.{names-declared}
use Rattle.dcc_variables.proofs.laws.names_are_declared.Goals as goal

pub returns : goal.returns
returns c graph tree f formed few no_params locals = names-declared graph few formed tree f no_params locals
