use Rattle.dcc_passes.proofs.OneGraphLaws.{form-fits}
use Rattle.dcc_passes.proofs.forms_fit.Goals as goal

pub returns : goal.returns
returns c = form-fits
