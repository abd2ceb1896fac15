use Rattle.dcc_ir.proofs.FitLaws.{value_fits}
use Rattle.dcc_ir.proofs.laws.values_fit.Goals as goal

pub returns : goal.returns
returns c = value_fits
