use Rattle.dcc_control.proofs.ToldLaws.{loops-valid}
use Rattle.dcc_control.proofs.laws.told_loops_are_valid.Goals as goal

pub returns : goal.returns
returns c = loops-valid
