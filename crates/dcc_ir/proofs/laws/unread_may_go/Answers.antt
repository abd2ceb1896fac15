use Rattle.dcc_ir.proofs.passes.TrimLaws.{unread_goes}
use Rattle.dcc_ir.proofs.laws.unread_may_go.Goals as goal

pub returns : goal.returns
returns c = unread_goes
