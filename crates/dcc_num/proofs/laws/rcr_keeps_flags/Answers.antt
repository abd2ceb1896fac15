use Rattle.dcc_num.proofs.ShiftFlags.{rcr_keeps}
use Rattle.dcc_num.proofs.laws.rcr_keeps_flags.Goals as goal

pub returns : goal.returns
returns c = rcr_keeps
