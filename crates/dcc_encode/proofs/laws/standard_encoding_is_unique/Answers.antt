use Rattle.dcc_encode.proofs.Orders.{standard_is_unique}
use Rattle.dcc_encode.proofs.laws.standard_encoding_is_unique.Goals as goal

pub returns : goal.returns
returns c = standard_is_unique
