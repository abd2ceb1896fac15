use Rattle.dcc_ir.proofs.ExecuteLaws.{block-executed}
use Rattle.dcc_ir.proofs.laws.statements_are_executed.Goals as goal

pub returns : goal.returns
returns c = block-executed
