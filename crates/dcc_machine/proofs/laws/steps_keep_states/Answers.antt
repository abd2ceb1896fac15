use Rattle.dcc_machine.proofs.StateKept.{states-kept}
use Rattle.dcc_machine.proofs.laws.steps_keep_states.Goals as goal

pub returns : goal.returns
returns c = states-kept
