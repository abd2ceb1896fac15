use Rattle.dcc_control.proofs.CompleteLaws.{nests-same}
use Rattle.dcc_control.proofs.laws.complete_plans_nest_alike.Goals as goal

pub returns : goal.returns
returns c = nests-same
