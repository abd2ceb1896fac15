use Rattle.dcc_lifted_demand.proofs.RefinedLaws.{lifted-is_refined}
use Rattle.dcc_lifted_demand.proofs.lifted_is_refined.Goals as goal

pub returns : goal.returns
returns c = lifted-is_refined
