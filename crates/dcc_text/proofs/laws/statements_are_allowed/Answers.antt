use Rattle.dcc_text.proofs.AllowedStmts.{statements-allowed}
use Rattle.dcc_text.proofs.laws.statements_are_allowed.Goals as goal

pub returns : goal.returns
returns c = statements-allowed
