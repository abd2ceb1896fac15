use Rattle.dcc_signatures.proofs.PackLaws.{packed-keeps}
use Rattle.dcc_signatures.proofs.laws.packed_keeps.Goals as goal

pub returns : goal.returns
returns c = packed-keeps
