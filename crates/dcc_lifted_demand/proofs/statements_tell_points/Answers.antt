use Rattle.dcc_lifted_demand.proofs.SourceLaws.{statements-tell_points}
use Rattle.dcc_lifted_demand.proofs.statements_tell_points.Goals as goal

pub returns : goal.returns
returns c = statements-tell_points
