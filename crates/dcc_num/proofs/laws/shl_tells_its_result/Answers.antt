use Rattle.dcc_num.proofs.ShiftFlags.{left_tells}
use Rattle.dcc_num.proofs.laws.shl_tells_its_result.Goals as goal

pub returns : goal.returns
returns c = left_tells
