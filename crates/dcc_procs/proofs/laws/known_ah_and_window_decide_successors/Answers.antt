use Rattle.dcc_prog.proofs.TrailLaws.{successors-same}
use Rattle.dcc_procs.proofs.laws.known_ah_and_window_decide_successors.Goals as goal

pub returns : goal.returns
returns c = successors-same
