use Rattle.dcc_asm.proofs.RunLaws.{listing_assembled}
use Rattle.dcc_asm.proofs.laws.listing_is_assembled.Goals as goal

pub returns : goal.returns
returns c = listing_assembled
