use Rattle.dcc_globals.proofs.Placed.{have-names}
use Rattle.dcc_globals.proofs.laws.globals_have_names.Goals as goal

pub returns : goal.returns
returns c = have-names
