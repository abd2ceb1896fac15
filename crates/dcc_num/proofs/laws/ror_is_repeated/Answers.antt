use Rattle.dcc_num.proofs.Steps.{ror_repeated}
use Rattle.dcc_num.proofs.laws.ror_is_repeated.Goals as goal

pub returns : goal.returns
returns c = ror_repeated
