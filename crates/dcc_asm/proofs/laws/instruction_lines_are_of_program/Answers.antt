use Rattle.dcc_asm.proofs.ListedInstructions.{lines_of_program}
use Rattle.dcc_asm.proofs.laws.instruction_lines_are_of_program.Goals as goal

pub returns : goal.returns
returns c = lines_of_program
