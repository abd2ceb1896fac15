use Rattle.dcc_plan.proofs.CallSteps.{calls-begin}
use Rattle.dcc_plan.proofs.laws.calls_begin.Goals as goal

pub returns : goal.returns
returns g c = calls-begin g.S.SomeSetting.opens g.S.SomeSetting.setting
