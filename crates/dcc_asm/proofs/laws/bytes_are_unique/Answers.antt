use Rattle.dcc_asm.proofs.TextLaws.{bytes_unique}
use Rattle.dcc_asm.proofs.laws.bytes_are_unique.Goals as goal

pub returns : goal.returns
returns c = bytes_unique
