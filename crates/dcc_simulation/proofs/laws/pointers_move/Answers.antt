use Rattle.dcc_simulation.proofs.StepsAgree.{pointers-move}
use Rattle.dcc_simulation.proofs.laws.pointers_move.Goals as goal

pub returns : goal.returns
returns c = pointers-move
