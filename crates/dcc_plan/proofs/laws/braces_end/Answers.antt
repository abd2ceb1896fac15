use Rattle.dcc_plan.proofs.Returns.{braces-end}
use Rattle.dcc_plan.proofs.laws.braces_end.Goals as goal

pub returns : goal.returns
returns g c = braces-end g.S.SomeSetting.opens g.S.SomeSetting.setting
