use Rattle.dcc_asm.proofs.TextLaws.{fault_unique}
use Rattle.dcc_asm.proofs.laws.fault_is_unique.Goals as goal

pub returns : goal.returns
returns c = fault_unique
