use Rattle.dcc_sums.proofs.KeepLaws.{localised-keeps}
use Rattle.dcc_sums.proofs.localised_keeps_all.Goals as goal

pub returns : goal.returns
returns c = localised-keeps
