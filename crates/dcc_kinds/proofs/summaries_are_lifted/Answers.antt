use Rattle.dcc_kinds.proofs.KindLaws.{summaries-are_lifted}
use Rattle.dcc_kinds.proofs.summaries_are_lifted.Goals as goal

pub returns : goal.returns
returns c = summaries-are_lifted
