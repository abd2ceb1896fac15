use Rattle.dcc_plan.proofs.PlanRuns.{plans-count}
use Rattle.dcc_plan.proofs.laws.plans_count.Goals as goal

pub returns : goal.returns
returns g c = plans-count g.H.SomeMeeting.matters g.H.SomeMeeting.alike
