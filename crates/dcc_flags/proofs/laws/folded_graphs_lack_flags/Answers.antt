use Rattle.dcc_flags.proofs.FlagLaws.{not_mentioned}
use Rattle.dcc_flags.proofs.laws.folded_graphs_lack_flags.Goals as goal

pub returns : goal.returns
returns c graph is order kept exact f goes = not_mentioned graph is kept exact f goes order
