use Rattle.dcc_passes.proofs.TidiedLaws.{tidied-refl}
use Rattle.dcc_passes.proofs.tidied_itself.Goals as goal

pub returns : goal.returns
returns c = tidied-refl
