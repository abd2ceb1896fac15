use Rattle.dcc_num.proofs.CarryRotations.{right_round}
use Rattle.dcc_num.proofs.laws.rcr_comes_round.Goals as goal

pub returns : goal.returns
returns c = right_round
