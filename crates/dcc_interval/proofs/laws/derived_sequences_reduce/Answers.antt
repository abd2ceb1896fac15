use Rattle.dcc_interval.proofs.LevelRegions.{levels_reduce}
use Rattle.dcc_interval.proofs.laws.derived_sequences_reduce.Goals as goal

pub returns : goal.returns
returns c = levels_reduce
