use Rattle.dcc_simulation.proofs.PiecePlaces.{pieces-have-places}
use Rattle.dcc_simulation.proofs.laws.pieces_have_places.Goals as goal

pub returns : goal.returns
returns c = pieces-have-places
