use Rattle.dcc_num.proofs.ShiftFlags.{rcl_keeps}
use Rattle.dcc_num.proofs.laws.rcl_keeps_flags.Goals as goal

pub returns : goal.returns
returns c = rcl_keeps
