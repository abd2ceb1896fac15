use Rattle.dcc_num.proofs.Bits.{xors}
use Rattle.dcc_num.proofs.laws.xor_is_bit_by_bit.Goals as goal

pub returns : goal.returns
returns c = xors
