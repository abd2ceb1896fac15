use Rattle.dcc_num.proofs.ShiftFlags.{right_carries}
use Rattle.dcc_num.proofs.laws.shr_carries_from_the_bottom.Goals as goal

pub returns : goal.returns
returns c = right_carries
