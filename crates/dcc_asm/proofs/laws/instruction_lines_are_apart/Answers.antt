use Rattle.dcc_asm.proofs.InstructionLaws.{lines_apart}
use Rattle.dcc_asm.proofs.laws.instruction_lines_are_apart.Goals as goal

pub returns : goal.returns
returns c = lines_apart
