use Rattle.dcc_sums.proofs.FormedLaws.{trimmed-formed}
use Rattle.dcc_sums.proofs.trimmed_is_formed.Goals as goal

pub returns : goal.returns
returns c = trimmed-formed
