use Rattle.dcc_num.proofs.Differences.{sums_exact}
use Rattle.dcc_num.proofs.laws.sums_are_exact.Goals as goal

pub returns : goal.returns
returns c = sums_exact
