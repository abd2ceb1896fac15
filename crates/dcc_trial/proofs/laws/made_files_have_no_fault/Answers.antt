use Rattle.dcc_trial.proofs.MadeLaws.{made-not_refused}
use Rattle.dcc_trial.proofs.laws.made_files_have_no_fault.Goals as goal

pub returns : goal.returns
returns c = made-not_refused
