use Rattle.dcc_flags.proofs.KindLaws.{kinds_stay}
use Rattle.dcc_flags.proofs.laws.folded_graphs_keep_kinds.Goals as goal

pub returns : goal.returns
returns c graph order kept = kinds_stay kept graph order
