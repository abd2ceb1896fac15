use Rattle.dcc_simulation.proofs.StepsAgree.{steps-agree}
use Rattle.dcc_simulation.proofs.laws.steps_agree.Goals as goal

pub returns : goal.returns
returns c = steps-agree
