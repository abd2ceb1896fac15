use Rattle.dcc_prog.proofs.SpLaws.{sp-told}
use Rattle.dcc_prog.proofs.laws.sp_is_as_told.Goals as goal

pub returns : goal.returns
returns c = sp-told
