use Rattle.dcc_control.proofs.CompleteLaws.{steps-same}
use Rattle.dcc_control.proofs.laws.complete_plans_keep_steps.Goals as goal

pub returns : goal.returns
returns c = steps-same
