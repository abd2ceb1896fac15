use Rattle.dcc_map.proofs.RunLaws.{lists_are}
use Rattle.dcc_map.proofs.laws.lists_are_of_runs.Goals as goal

pub returns : goal.returns
returns c = lists_are
