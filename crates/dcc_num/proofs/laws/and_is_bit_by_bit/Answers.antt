use Rattle.dcc_num.proofs.Bits.{ands}
use Rattle.dcc_num.proofs.laws.and_is_bit_by_bit.Goals as goal

pub returns : goal.returns
returns c = ands
