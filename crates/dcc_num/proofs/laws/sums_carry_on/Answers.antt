use Rattle.dcc_num.proofs.Negations.{sums_carry}
use Rattle.dcc_num.proofs.laws.sums_carry_on.Goals as goal

pub returns : goal.returns
returns c = sums_carry
