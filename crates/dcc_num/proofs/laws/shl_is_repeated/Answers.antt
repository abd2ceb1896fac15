use Rattle.dcc_num.proofs.Steps.{left_repeated}
use Rattle.dcc_num.proofs.laws.shl_is_repeated.Goals as goal

pub returns : goal.returns
returns c = left_repeated
