use Rattle.dcc_text.proofs.StmtLaws.{statements-step}
use Rattle.dcc_text.proofs.laws.statements_step.Goals as goal

pub returns : goal.returns
returns g c = statements-step g.H.SomeHolding.before g.H.SomeHolding.after g.H.SomeHolding.alike
