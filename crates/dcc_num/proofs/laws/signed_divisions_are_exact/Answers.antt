use Rattle.dcc_num.proofs.Divisions.{signed_divisions_exact}
use Rattle.dcc_num.proofs.laws.signed_divisions_are_exact.Goals as goal

pub returns : goal.returns
returns c = signed_divisions_exact
