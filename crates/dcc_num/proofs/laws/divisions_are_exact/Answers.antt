use Rattle.dcc_num.proofs.Divisions.{divisions_exact}
use Rattle.dcc_num.proofs.laws.divisions_are_exact.Goals as goal

pub returns : goal.returns
returns c = divisions_exact
