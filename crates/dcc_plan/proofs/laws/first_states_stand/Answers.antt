use Rattle.dcc_plan.proofs.FirstStates.{first-states-stand}
use Rattle.dcc_plan.proofs.laws.first_states_stand.Goals as goal

pub returns : goal.returns
returns g c = first-states-stand g.S.SomeSetting.opens g.S.SomeSetting.setting
