use Rattle.dcc_simulation.proofs.CallsBegin.{calls-begin}
use Rattle.dcc_simulation.proofs.laws.calls_begin.Goals as goal

pub returns : goal.returns
returns c = calls-begin
