use Rattle.dcc_progress.proofs.StuckLaws.{stuck-only_at_ends}
use Rattle.dcc_progress.proofs.stuck_only_at_ends.Goals as goal

pub returns : goal.returns
returns c = stuck-only_at_ends
