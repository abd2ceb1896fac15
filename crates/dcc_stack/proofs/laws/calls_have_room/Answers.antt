use Rattle.dcc_stack.proofs.RunLaws.{calls-room}
use Rattle.dcc_stack.proofs.laws.calls_have_room.Goals as goal

pub returns : goal.returns
returns c = calls-room
