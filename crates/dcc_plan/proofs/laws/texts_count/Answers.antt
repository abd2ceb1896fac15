use Rattle.dcc_plan.proofs.PlanRuns.{texts-count}
use Rattle.dcc_plan.proofs.laws.texts_count.Goals as goal

pub returns : goal.returns
returns g c = texts-count g.H.SomeMeeting.matters g.H.SomeMeeting.alike
