use Rattle.dcc_num.proofs.ShiftFlags.{rol_keeps}
use Rattle.dcc_num.proofs.laws.rol_keeps_flags.Goals as goal

pub returns : goal.returns
returns c = rol_keeps
