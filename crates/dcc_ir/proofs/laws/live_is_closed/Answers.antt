use Rattle.dcc_ir.proofs.FamilyLaws.{live-closed}
use Rattle.dcc_ir.proofs.laws.live_is_closed.Goals as goal

pub returns : goal.returns
returns c = live-closed
