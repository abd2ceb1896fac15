use Rattle.dcc_variables.proofs.Served.{functions-served}
use Rattle.dcc_variables.proofs.laws.functions_are_served.Goals as goal

pub returns : goal.returns
returns c = functions-served
