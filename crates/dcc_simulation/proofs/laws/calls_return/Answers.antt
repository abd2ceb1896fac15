use Rattle.dcc_simulation.proofs.CallsReturn.{calls-return}
use Rattle.dcc_simulation.proofs.laws.calls_return.Goals as goal

pub returns : goal.returns
returns c = calls-return
