use Rattle.dcc_asm.proofs.ListedInstructions.{one_instruction}
use Rattle.dcc_asm.proofs.laws.program_has_one_instruction.Goals as goal

pub returns : goal.returns
returns c = one_instruction
