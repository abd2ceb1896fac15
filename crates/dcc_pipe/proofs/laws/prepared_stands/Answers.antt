use Rattle.dcc_pipe.proofs.StandingLaws.{prepared-stands}
use Rattle.dcc_pipe.proofs.laws.prepared_stands.Goals as goal

pub returns : goal.returns
returns c = prepared-stands
