use Rattle.dcc_signatures.proofs.GiveLaws.{packed-passes_one}
use Rattle.dcc_signatures.proofs.laws.packed_passes_one.Goals as goal

pub returns : goal.returns
returns c = packed-passes_one
