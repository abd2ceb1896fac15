use Rattle.dcc_num.proofs.Steps.{right_repeated}
use Rattle.dcc_num.proofs.laws.shr_is_repeated.Goals as goal

pub returns : goal.returns
returns c = right_repeated
