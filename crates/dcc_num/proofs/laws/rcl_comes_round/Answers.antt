use Rattle.dcc_num.proofs.CarryRotations.{left_round}
use Rattle.dcc_num.proofs.laws.rcl_comes_round.Goals as goal

pub returns : goal.returns
returns c = left_round
