use Rattle.dcc_stack.proofs.StackLaws.{frames_stand}
use Rattle.dcc_stack.proofs.laws.frames_stand.Goals as goal

pub returns : goal.returns
returns c = frames_stand
