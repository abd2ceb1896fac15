use Rattle.dcc_plan.proofs.AllowedCalls.{calls-allowed}
use Rattle.dcc_plan.proofs.laws.calls_are_allowed.Goals as goal

pub returns : goal.returns
returns c = calls-allowed
