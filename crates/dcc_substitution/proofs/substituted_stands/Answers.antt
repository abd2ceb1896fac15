use Rattle.dcc_substitution.proofs.SubstitutedLaws.{substituted-stands}
use Rattle.dcc_substitution.proofs.substituted_stands.Goals as goal

pub returns : goal.returns
returns g c = substituted-stands g.A.SomeAvailability.available
