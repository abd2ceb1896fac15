use Rattle.dcc_passes.proofs.KindLaws.{kind-fits}
use Rattle.dcc_passes.proofs.kinds_fit.Goals as goal

pub returns : goal.returns
returns c = kind-fits
