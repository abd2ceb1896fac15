use Rattle.dcc_num.proofs.Divisions.{signed_products_exact}
use Rattle.dcc_num.proofs.laws.signed_products_are_exact.Goals as goal

pub returns : goal.returns
returns c = signed_products_exact
