use Rattle.dcc_instruction_demand.proofs.InstructionLaws.{instructions-agree_with_their_statements}
use Rattle.dcc_instruction_demand.proofs.instructions_agree_with_their_statements.Goals as goal

pub returns : goal.returns
returns c = instructions-agree_with_their_statements
