use Rattle.dcc_plan.proofs.AllowedPlans.{texts-allowed}
use Rattle.dcc_plan.proofs.laws.plan_texts_are_allowed.Goals as goal

pub returns : goal.returns
returns c = texts-allowed
