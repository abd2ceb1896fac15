use Rattle.dcc_asm.proofs.TextLaws.{assembled_no_fault}
use Rattle.dcc_asm.proofs.laws.assembled_has_no_fault.Goals as goal

pub returns : goal.returns
returns c = assembled_no_fault
