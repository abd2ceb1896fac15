use Rattle.dcc_globals.proofs.Placed.{are-allowed}
use Rattle.dcc_globals.proofs.laws.globals_are_allowed.Goals as goal

pub returns : goal.returns
returns c = are-allowed
