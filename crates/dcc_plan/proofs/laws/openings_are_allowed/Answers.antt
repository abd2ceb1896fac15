use Rattle.dcc_plan.proofs.AllowedCalls.{openings-allowed}
use Rattle.dcc_plan.proofs.laws.openings_are_allowed.Goals as goal

pub returns : goal.returns
returns c = openings-allowed
