use Rattle.dcc_simulation.proofs.FoundPlaces.{found-places}
use Rattle.dcc_simulation.proofs.laws.found_places_stand.Goals as goal

pub returns : goal.returns
returns c = found-places
