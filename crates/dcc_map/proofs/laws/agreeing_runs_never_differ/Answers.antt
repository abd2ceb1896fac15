use Rattle.dcc_map.proofs.RunLaws.{runs_never_differ}
use Rattle.dcc_map.proofs.laws.agreeing_runs_never_differ.Goals as goal

pub returns : goal.returns
returns c = runs_never_differ
