use Rattle.dcc_plan.proofs.PlanRuns.{programs-count}
use Rattle.dcc_plan.proofs.laws.programs_count.Goals as goal

pub returns : goal.returns
returns g c = programs-count g.T.SomeTexts.opens g.T.SomeTexts.texts
