use Rattle.dcc_stack.proofs.StackLaws.{steps_stand}
use Rattle.dcc_stack.proofs.laws.clean_steps_stand.Goals as goal

pub returns : goal.returns
returns c = steps_stand
