use Rattle.dcc_ir.proofs.RunLaws.{inner_watchable}
use Rattle.dcc_ir.proofs.laws.runs_are_watchable.Goals as goal

pub returns : goal.returns
returns c = inner_watchable
