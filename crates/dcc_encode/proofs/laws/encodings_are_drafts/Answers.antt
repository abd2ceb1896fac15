use Rattle.dcc_encode.proofs.Covered.{encodings_are_drafts}
use Rattle.dcc_encode.proofs.laws.encodings_are_drafts.Goals as goal

pub returns : goal.returns
returns c = encodings_are_drafts
