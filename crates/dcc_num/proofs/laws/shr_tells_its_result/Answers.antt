use Rattle.dcc_num.proofs.ShiftFlags.{right_tells}
use Rattle.dcc_num.proofs.laws.shr_tells_its_result.Goals as goal

pub returns : goal.returns
returns c = right_tells
