use Rattle.dcc_control.proofs.GotoLaws.{goto-valid}
use Rattle.dcc_control.proofs.laws.goto_plan_is_valid.Goals as goal

pub returns : goal.returns
returns g = goto-valid
