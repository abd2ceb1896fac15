use Rattle.dcc_control.proofs.ToldSteps.{steps-kept}
use Rattle.dcc_control.proofs.laws.told_loops_keep_steps.Goals as goal

pub returns : goal.returns
returns c = steps-kept
