use Rattle.dcc_variables.proofs.DeclaredFunctions.{function-declared}
use Rattle.dcc_variables.proofs.laws.function_names_are_declared.Goals as goal

pub returns : goal.returns
returns c graph tree f formed few params locals = function-declared graph few.variables few.params formed tree f params locals
