use Rattle.dcc_passes.proofs.OneGraphLaws.{one-stands}
use Rattle.dcc_passes.proofs.one_stands.Goals as goal

pub returns : goal.returns
returns g c = one-stands g.P.OnePass.place g.P.OnePass.invariant
