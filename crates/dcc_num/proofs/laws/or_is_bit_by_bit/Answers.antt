use Rattle.dcc_num.proofs.Bits.{ors}
use Rattle.dcc_num.proofs.laws.or_is_bit_by_bit.Goals as goal

pub returns : goal.returns
returns c = ors
