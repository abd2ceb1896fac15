use Rattle.dcc_passes.proofs.TidiedLaws.{tidied-trans}
use Rattle.dcc_passes.proofs.tidied_composes.Goals as goal

pub returns : goal.returns
returns c = tidied-trans
