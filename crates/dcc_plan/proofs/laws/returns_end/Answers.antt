use Rattle.dcc_plan.proofs.Returns.{returns-end}
use Rattle.dcc_plan.proofs.laws.returns_end.Goals as goal

pub returns : goal.returns
returns g c = returns-end g.S.SomeSetting.opens g.S.SomeSetting.setting
