use Rattle.dcc_num.proofs.CarryRotations.{left_undone}
use Rattle.dcc_num.proofs.laws.rcr_undoes_rcl.Goals as goal

pub returns : goal.returns
returns c = left_undone
