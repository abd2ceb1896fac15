use Rattle.dcc_prog.proofs.PassedRuns.{ah-held}
use Rattle.dcc_prog.proofs.laws.known_ah_is_held.Goals as goal

pub returns : goal.returns
returns c = ah-held
