use Rattle.dcc_lifted_demand.proofs.InstructionLaws.{instructions-have_points}
use Rattle.dcc_lifted_demand.proofs.instructions_have_points.Goals as goal

pub returns : goal.returns
returns c = instructions-have_points
