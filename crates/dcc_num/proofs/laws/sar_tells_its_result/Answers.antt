use Rattle.dcc_num.proofs.ShiftFlags.{signed_tells}
use Rattle.dcc_num.proofs.laws.sar_tells_its_result.Goals as goal

pub returns : goal.returns
returns c = signed_tells
