use Rattle.dcc_ir.proofs.FamilyLaws.{needed-closed}
use Rattle.dcc_ir.proofs.laws.needed_is_closed.Goals as goal

pub returns : goal.returns
returns c = needed-closed
