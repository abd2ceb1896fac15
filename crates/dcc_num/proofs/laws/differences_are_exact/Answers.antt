use Rattle.dcc_num.proofs.Differences.{differences_exact}
use Rattle.dcc_num.proofs.laws.differences_are_exact.Goals as goal

pub returns : goal.returns
returns c = differences_exact
