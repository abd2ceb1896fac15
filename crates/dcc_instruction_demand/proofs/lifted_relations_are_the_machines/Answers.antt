use Rattle.dcc_instruction_demand.proofs.RelationLaws.{lifted-relations_are_the_machines}
use Rattle.dcc_instruction_demand.proofs.lifted_relations_are_the_machines.Goals as goal

pub returns : goal.returns
returns c = lifted-relations_are_the_machines
