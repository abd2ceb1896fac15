use Rattle.dcc_list.proofs.Standing.{listing_stands}
use Rattle.dcc_list.proofs.laws.listing_stands_for_image.Goals as goal

pub returns : goal.returns
returns c = listing_stands
