use Rattle.dcc_machine.proofs.AlikeUsed.{used-alike}
use Rattle.dcc_machine.proofs.laws.what_is_used_alike_shows_alike.Goals as goal

pub returns : goal.returns
returns c = used-alike
