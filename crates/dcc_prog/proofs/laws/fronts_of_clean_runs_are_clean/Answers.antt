use Rattle.dcc_prog.proofs.CleanLaws.{fronts-clean}
use Rattle.dcc_prog.proofs.laws.fronts_of_clean_runs_are_clean.Goals as goal

pub returns : goal.returns
returns c = fronts-clean
