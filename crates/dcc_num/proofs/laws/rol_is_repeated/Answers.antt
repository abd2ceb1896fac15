use Rattle.dcc_num.proofs.Steps.{rol_repeated}
use Rattle.dcc_num.proofs.laws.rol_is_repeated.Goals as goal

pub returns : goal.returns
returns c = rol_repeated
