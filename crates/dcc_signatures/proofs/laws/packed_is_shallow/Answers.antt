use Rattle.dcc_signatures.proofs.DepthLaws.{packed-is_shallow}
use Rattle.dcc_signatures.proofs.laws.packed_is_shallow.Goals as goal

pub returns : goal.returns
returns c = packed-is_shallow
