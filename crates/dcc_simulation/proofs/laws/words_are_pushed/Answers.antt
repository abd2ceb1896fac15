use Rattle.dcc_simulation.proofs.Pushes.{words-pushed}
use Rattle.dcc_simulation.proofs.laws.words_are_pushed.Goals as goal

pub returns : goal.returns
returns c = words-pushed
