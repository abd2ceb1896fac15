use Rattle.dcc_num.proofs.Differences.{differences_compare}
use Rattle.dcc_num.proofs.laws.differences_compare.Goals as goal

pub returns : goal.returns
returns c = differences_compare
