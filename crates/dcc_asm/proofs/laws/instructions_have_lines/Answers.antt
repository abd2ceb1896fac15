use Rattle.dcc_asm.proofs.ListedInstructions.{instructions_have_lines}
use Rattle.dcc_asm.proofs.laws.instructions_have_lines.Goals as goal

pub returns : goal.returns
returns c = instructions_have_lines
