use Rattle.dcc_instruction_demand.proofs.EnoughLaws.{agreeing-instructions_are_enough}
use Rattle.dcc_instruction_demand.proofs.agreeing_instructions_are_enough.Goals as goal

pub returns : goal.returns
returns c = agreeing-instructions_are_enough
