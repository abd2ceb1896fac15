use Rattle.dcc_copies.proofs.SettledLaws.{lot-tidied}
use Rattle.dcc_copies.proofs.laws.settled_stands.Goals as goal

pub returns : goal.returns
returns c = lot-tidied
