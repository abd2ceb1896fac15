use Rattle.dcc_sums.proofs.JustLaws.{localised-passes_just}
use Rattle.dcc_sums.proofs.localised_passes_just.Goals as goal

pub returns : goal.returns
returns c = localised-passes_just
