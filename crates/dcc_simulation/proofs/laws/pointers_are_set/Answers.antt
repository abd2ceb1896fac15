use Rattle.dcc_simulation.proofs.PointersSet.{pointers-set}
use Rattle.dcc_simulation.proofs.laws.pointers_are_set.Goals as goal

pub returns : goal.returns
returns c = pointers-set
