use Rattle.dcc_num.proofs.CarryRotations.{right_undone}
use Rattle.dcc_num.proofs.laws.rcl_undoes_rcr.Goals as goal

pub returns : goal.returns
returns c = right_undone
