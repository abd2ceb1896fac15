use Rattle.dcc_stack.proofs.StackLaws.{frames_are_few}
use Rattle.dcc_stack.proofs.laws.frames_are_few.Goals as goal

pub returns : goal.returns
returns c = frames_are_few
