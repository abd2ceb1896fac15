use Rattle.dcc_prog.proofs.PassedRuns.{prepared-held}
use Rattle.dcc_prog.proofs.laws.prepared_upper_is_held.Goals as goal

pub returns : goal.returns
returns c = prepared-held
