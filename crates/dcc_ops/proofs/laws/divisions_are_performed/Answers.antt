use Rattle.dcc_ops.proofs.DivisionPerformed.{divisions_performed}
use Rattle.dcc_ops.proofs.laws.divisions_are_performed.Goals as goal

pub returns : goal.returns
returns g c = divisions_performed g.C.SomeCoupling.before c.requires
