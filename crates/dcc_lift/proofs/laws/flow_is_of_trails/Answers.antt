use Rattle.dcc_lift.proofs.TrailFlow.{flow-of_trails}
use Rattle.dcc_lift.proofs.laws.flow_is_of_trails.Goals as goal

pub returns : goal.returns
returns c = flow-of_trails
