use Rattle.dcc_trial.proofs.AgreementLaws.{outputs-comparable}
use Rattle.dcc_trial.proofs.laws.clean_runs_agree.Goals as goal

pub returns : goal.returns
returns c = outputs-comparable
