use Rattle.dcc_control.proofs.CompleteLaws.{completed-valid}
use Rattle.dcc_control.proofs.laws.complete_plans_are_valid.Goals as goal

pub returns : goal.returns
returns c = completed-valid
