use Rattle.dcc_num.proofs.Divisions.{products_exact}
use Rattle.dcc_num.proofs.laws.products_are_exact.Goals as goal

pub returns : goal.returns
returns c = products_exact
