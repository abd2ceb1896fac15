use Rattle.dcc_variables.proofs.ParamNames.{spelling-is}
use Rattle.dcc_variables.proofs.laws.function_names_differ.Goals as goal

pub returns : goal.returns
returns c graph few = spelling-is graph few.variables few.params
