use Rattle.dcc_num.proofs.ShiftFlags.{left_carries}
use Rattle.dcc_num.proofs.laws.shl_carries_from_the_top.Goals as goal

pub returns : goal.returns
returns c = left_carries
