use Rattle.dcc_plan.proofs.AllowedCalls.{returns-allowed}
use Rattle.dcc_plan.proofs.laws.returns_are_allowed.Goals as goal

pub returns : goal.returns
returns c = returns-allowed
