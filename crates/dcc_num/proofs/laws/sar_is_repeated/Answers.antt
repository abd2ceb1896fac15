use Rattle.dcc_num.proofs.Steps.{signed_repeated}
use Rattle.dcc_num.proofs.laws.sar_is_repeated.Goals as goal

pub returns : goal.returns
returns c = signed_repeated
