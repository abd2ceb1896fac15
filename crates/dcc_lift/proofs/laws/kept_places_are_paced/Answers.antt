use Rattle.dcc_lift.proofs.KeptPaces.{kept-paced}
use Rattle.dcc_lift.proofs.laws.kept_places_are_paced.Goals as goal

pub returns : goal.returns
returns c = kept-paced
