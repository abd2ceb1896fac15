use Rattle.dcc_flags.proofs.TruthLaws.{truths_stay}
use Rattle.dcc_flags.proofs.laws.folded_graphs_keep_truths.Goals as goal

pub returns : goal.returns
returns c graph order kept plain = truths_stay kept graph order plain
