use Rattle.dcc_machine.proofs.AlikeMade.{made-alike}
use Rattle.dcc_machine.proofs.laws.what_is_made_alike_is_alike.Goals as goal

pub returns : goal.returns
returns c = made-alike
