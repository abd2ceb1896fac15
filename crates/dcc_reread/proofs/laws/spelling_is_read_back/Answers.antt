use Rattle.dcc_reread.proofs.LawsOfSpellings.{spelling_read_back}
use Rattle.dcc_reread.proofs.laws.spelling_is_read_back.Goals as goal

pub returns : goal.returns
returns c = spelling_read_back
