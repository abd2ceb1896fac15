use Rattle.dcc_num.proofs.Negations.{differences_carry}
use Rattle.dcc_num.proofs.laws.differences_carry_on.Goals as goal

pub returns : goal.returns
returns c = differences_carry
