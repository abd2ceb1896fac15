use Rattle.dcc_signatures.proofs.LocalLaws.{localised-passes_one_value}
use Rattle.dcc_signatures.proofs.laws.localised_passes_one_value.Goals as goal

pub returns : goal.returns
returns c = localised-passes_one_value
