use Rattle.dcc_num.proofs.Differences.{sign_extensions_exact}
use Rattle.dcc_num.proofs.laws.sign_extensions_are_exact.Goals as goal

pub returns : goal.returns
returns c = sign_extensions_exact
