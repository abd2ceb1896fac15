use Rattle.dcc_plan.proofs.PlacedItems.{goto-stands}
use Rattle.dcc_plan.proofs.laws.goto_plans_may_stand.Goals as goal

pub returns : goal.returns
returns c = goto-stands
