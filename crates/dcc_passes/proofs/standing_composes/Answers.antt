use Rattle.dcc_passes.proofs.ReplacedLaws.{stands-trans}
use Rattle.dcc_passes.proofs.standing_composes.Goals as goal

pub returns : goal.returns
returns c = stands-trans
