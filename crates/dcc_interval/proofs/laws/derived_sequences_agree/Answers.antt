use Rattle.dcc_interval.proofs.AgreeLaws.{are_alike}
use Rattle.dcc_interval.proofs.laws.derived_sequences_agree.Goals as goal

pub returns : goal.returns
returns c = are_alike
