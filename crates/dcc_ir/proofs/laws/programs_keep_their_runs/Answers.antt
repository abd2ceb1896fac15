use Rattle.dcc_ir.proofs.passes.TrimLaws.{runs_kept}
use Rattle.dcc_ir.proofs.laws.programs_keep_their_runs.Goals as goal

pub returns : goal.returns
returns c = runs_kept
