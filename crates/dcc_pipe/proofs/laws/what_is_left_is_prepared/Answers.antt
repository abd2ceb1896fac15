use Rattle.dcc_pipe.proofs.PreparedLaws.{what-is_left-is_prepared}
use Rattle.dcc_pipe.proofs.laws.what_is_left_is_prepared.Goals as goal

pub returns : goal.returns
returns c = what-is_left-is_prepared
