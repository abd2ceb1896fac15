use Rattle.dcc_num.proofs.ShiftFlags.{ror_keeps}
use Rattle.dcc_num.proofs.laws.ror_keeps_flags.Goals as goal

pub returns : goal.returns
returns c = ror_keeps
