use Rattle.dcc_reread.proofs.LawsOfSpellings.{spelling_unique}
use Rattle.dcc_reread.proofs.laws.spelling_is_unique.Goals as goal

pub returns : goal.returns
returns c = spelling_unique
