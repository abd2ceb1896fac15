use Rattle.dcc_live.proofs.StartLaws.{begins-live}
use Rattle.dcc_live.proofs.laws.begins_live_is_live.Goals as goal

pub returns : goal.returns
returns c = begins-live
